-- The other peers so far were posted to.
use Rattle.std.specs.Prelude.{◌≡◌, ◌++◌, map, take}
use Rattle.tsp_base.specs.Words.{PutsAtMost, others, placed}
use Rattle.tsp_rules.specs.GateRows.{repost}
use Rattle.tsp_gateway.proofs.looping.repost.Given as goal

abbrev pub invariant-loop-p : goal.invariant-loop-p
invariant-loop-p g l = record {
  acts : g.D.Desk.acts l.desk ≡ g.D.Desk.acts l.initial.desk ++ placed l.port (map (repost l.message)
      (others l.station.me.own (take l.p-index l.station.peers)));
  room : PutsAtMost l.p-index (g.D.Desk.spare l.initial.desk) (g.D.Desk.spare l.desk) (g.D.Desk.acts l.initial.desk) (g.D.Desk.acts l.desk);
}
