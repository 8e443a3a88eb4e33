-- The drift's line is the one that may follow.
use Rattle.std.proofs.Common.{◌∙◌, ap, subst, Ok}
use Rattle.tsp_script.specs.Schedules.{SpellsHead}
use Rattle.tsp_schedule.proofs.StageLemmas.{Advances_drift}
use Rattle.tsp_schedule.proofs.stage.Stage.drift.Goals as goal

pub returns-in-Ok-Drift-clause-next : goal.returns-in-Ok-Drift-clause-next
returns-in-Ok-Drift-clause-next g c =
    Advances_drift g.C.EventHandler.refused g.C.EventHandler.stands c.args.version c.in-Ok-Drift.drift c.args.line.now c.drifted.result c.head_line.result
    (c.in-Ok-Drift.is ∙ ap (λ i. Ok i) c.in-Ok-Drift.field-0-is) c.head_line.ensures.one
    (subst (λ i. SpellsHead 2 c.args.line.now i) c.in-Ok-Drift.field-0-is c.in-Ok-Drift.ensures.reads) c.drifted.ensures
