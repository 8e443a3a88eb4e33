-- A QUIT to each of the marked peers so far has begun.
use Rattle.std.specs.Prelude.{take}
use Rattle.tsp_base.specs.Words.{PutsAtMost, Performs, for_each}
use Rattle.tsp_rules.specs.{SendRows.begins, Values.QuitKind}
use Rattle.tsp_acks.specs.Changes.{IsSamePort}
use Rattle.tsp_resolve.specs.{Marked.marked, ResolveStands.ResolvingActs}
use Rattle.tsp_resolve.proofs.resolve.Resolve.quit_rivals.Given as goal

abbrev pub invariant-loop-place : goal.invariant-loop-place
invariant-loop-place g l = record {
  row : Performs ResolvingActs ResolvingActs (for_each (begins QuitKind) (marked (take l.place l.initial.station.peers) l.self.marks)) l.tick l.port
      (record { resolve = l.self; station = l.initial.station }) (record { resolve = l.self; station = l.station })
      (g.D.Desk.acts l.initial.desk) (g.D.Desk.acts l.desk);
  same : IsSamePort l.initial.station l.station;
  room : PutsAtMost l.place (g.D.Desk.spare l.initial.desk) (g.D.Desk.spare l.desk) (g.D.Desk.acts l.initial.desk) (g.D.Desk.acts l.desk);
}
