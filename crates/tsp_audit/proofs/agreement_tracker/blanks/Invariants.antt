-- The nodes so far are blank.
use Rattle.tsp_audit.specs.Agreeing.{AreBlank}
use Rattle.tsp_audit.proofs.agreement_tracker.blanks.Given as goal

abbrev pub invariant-loop : goal.invariant-loop
invariant-loop l = AreBlank l.counter l.states.items
