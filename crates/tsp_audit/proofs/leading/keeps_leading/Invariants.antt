-- The lines so far are as the promise says, where the first ones were.
use Rattle.std.proofs.Common.{take}
use Rattle.tsp_promises.specs.OnlyMaster.{OnlyMaster}
use Rattle.tsp_history.specs.Histories.{history_of}
use Rattle.tsp_audit.proofs.leading.keeps_leading.Given as goal

abbrev pub invariant-loop-i : goal.invariant-loop-i
invariant-loop-i l = OnlyMaster (history_of (take l.from l.lines)) → OnlyMaster (history_of (take l.i l.lines))
