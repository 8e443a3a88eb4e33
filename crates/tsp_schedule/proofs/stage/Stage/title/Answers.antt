-- The title of either version is accepted.
use Rattle.std.proofs.Common.{◌∙◌, ap, subst, refl, Ok}
use Rattle.tsp_script.{proofs.Outcomes.err_or_ok, specs.Schedules.SpellsHead, specs.declared.head_line.HeadItem.TheVariants.Title}
use Rattle.tsp_schedule.proofs.StageLemmas.{Advances_title}
use Rattle.tsp_schedule.proofs.stage.Stage.title.Goals as goal

pub returns-in-Ok-Title-clause-next : goal.returns-in-Ok-Title-clause-next
returns-in-Ok-Title-clause-next g c =
    Advances_title g.C.EventHandler.refused g.C.EventHandler.stands c.in-Ok-Title.version c.args.line.now c.head_line.result (c.in-Ok-Title.is ∙
    ap (λ i. Ok i) c.in-Ok-Title.field-0-is) c.head_line.ensures.one
    (subst (λ i. SpellsHead 1 c.args.line.now i) c.in-Ok-Title.field-0-is c.in-Ok-Title.ensures.reads)

pub returns-in-Err-clause-next : goal.returns-in-Err-clause-next
returns-in-Err-clause-next g c = rw c.bad_header.ensures (
  λ version s. err_or_ok c.head_line.result c.in-Err.field-0 (Title version) c.in-Err.is
      (c.head_line.ensures.one (Title version) s),
  refl,
)
