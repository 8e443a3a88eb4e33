-- A send to each of the peers so far but the own one has begun.
use Rattle.std.specs.Prelude.{take}
use Rattle.tsp_base.specs.Words.{PutsAtMost, Performs, for_each, others}
use Rattle.tsp_rules.specs.SendRows.{begins}
use Rattle.tsp_acks.specs.{Changes.ChangesSends, Stands.StandsActing}
use Rattle.tsp_acks.proofs.station.Station.begin_to_others.Given as goal

abbrev pub invariant-loop-place : goal.invariant-loop-place
invariant-loop-place g l = record {
  row : Performs StandsActing StandsActing (for_each (begins l.kind) (others l.initial.self.me.own (take l.place l.initial.self.peers))) l.tick l.port
      l.initial.self l.self
      (g.D.Desk.acts l.initial.desk) (g.D.Desk.acts l.desk);
  rest : ChangesSends l.initial.self l.self;
  room : PutsAtMost l.place (g.D.Desk.spare l.initial.desk) (g.D.Desk.spare l.desk) (g.D.Desk.acts l.initial.desk) (g.D.Desk.acts l.desk);
}
