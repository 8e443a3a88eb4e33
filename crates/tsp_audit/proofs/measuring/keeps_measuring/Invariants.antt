-- The lines so far are as the promise says, where the first ones were.
use Rattle.std.proofs.Common.{take}
use Rattle.tsp_promises.specs.{Everywhere.Everywhere, Setting.Setting}
use Rattle.tsp_history.specs.Histories.{history_of}
use Rattle.tsp_audit.specs.{Measuring.MeasuresAt, Parts.MeasuresWell, Settings.HasClocks, Settings.Timely}
use Rattle.tsp_audit.proofs.measuring.keeps_measuring.Given as goal

abbrev pub invariant-loop-i : goal.invariant-loop-i
invariant-loop-i l = (setting : Setting) → HasClocks l.header setting → Timely (history_of l.lines) → MeasuresWell setting (history_of (take l.from l.lines)) →
    Everywhere (MeasuresAt setting) (history_of (take l.i l.lines))
