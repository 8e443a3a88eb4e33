-- The lines so far are as the promise says, where the first ones were.
use Rattle.std.proofs.Common.{take}
use Rattle.tsp_promises.specs.{Everywhere.Everywhere, OneBack.OneBack}
use Rattle.tsp_history.specs.Histories.{history_of}
use Rattle.tsp_audit.specs.Backing.{Backs}
use Rattle.tsp_audit.proofs.backing.keeps_backing.Given as goal

abbrev pub invariant-loop-i : goal.invariant-loop-i
invariant-loop-i l = OneBack (history_of (take l.from l.lines)) → Everywhere Backs (history_of (take l.i l.lines))
