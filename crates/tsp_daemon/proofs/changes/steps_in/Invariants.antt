-- The steps of the acts counted so far.
use Rattle.std.proofs.Common.{◌≡◌, ◌≤◌, ◌+◌, drop}
use Rattle.tsp_daemon.specs.Pages.{steps_in}
use Rattle.tsp_daemon.proofs.changes.steps_in.Given as goal

abbrev pub invariant-loop-placed : goal.invariant-loop-placed
invariant-loop-placed l = record {
  count : steps_in l.acts ≡ l.count + steps_in (drop l.placed-index l.acts);
  few : l.count ≤ l.placed-index;
}
