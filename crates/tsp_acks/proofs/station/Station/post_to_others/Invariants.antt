-- The peers so far but the own one were posted to.
use Rattle.std.specs.Prelude.{◌≡◌, ◌++◌, map, take}
use Rattle.tsp_base.specs.Words.{PutsAtMost, post_of, others, placed}
use Rattle.tsp_acks.proofs.station.Station.post_to_others.Given as goal

abbrev pub invariant-loop-p : goal.invariant-loop-p
invariant-loop-p g l = record {
  acts : g.D.Desk.acts l.desk ≡ g.D.Desk.acts l.initial.desk ++
      placed l.port (map (post_of l.kind l.number l.self.me.name) (others l.self.me.own (take l.p-index l.self.peers)));
  room : PutsAtMost l.p-index (g.D.Desk.spare l.initial.desk) (g.D.Desk.spare l.desk) (g.D.Desk.acts l.initial.desk) (g.D.Desk.acts l.desk);
}
