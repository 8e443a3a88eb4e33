-- `strict` is the one line that may follow.
use Rattle.std.proofs.Common.{refl}
use Rattle.tsp_script.{proofs.Outcomes.err_or_ok, specs.declared.head_line.HeadItem.TheVariants.Strict}
use Rattle.tsp_schedule.proofs.stage.Stage.strict.Goals as goal

pub returns-in-Err-clause-next : goal.returns-in-Err-clause-next
returns-in-Err-clause-next g c = λ drift is. rw c.bad_header-in-Err.ensures (
  λ s. err_or_ok c.head_line.result c.in-Err.field-0 Strict c.in-Err.is
      (c.head_line.ensures.one Strict s),
  refl,
)
