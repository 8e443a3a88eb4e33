use Rattle.std.proofs.Common.{arith, refl, subst, Ok}
use Rattle.tsp_script.{specs.declared.head_line.HeadItem.TheVariants.Drift, proofs.HeadLines.reads_later, proofs.HeadLines.reads_one}
use Rattle.tsp_script.specs.Schedules.{SpellsHead}
use Rattle.tsp_script.proofs.head_line.head_line.Goals as goal

pub returns-in_default : goal.returns-in_default
returns-in_default c =
    let reads = reads_later c.args.place c.args.line.now c.later_line.result (omega arith) (λ e. absurd (omega arith)) c.later_line.ensures in
    record { reads = reads; one = reads_one c.args.place c.args.line.now c.later_line.result reads }

pub returns-in-1-clause-one : goal.returns-in-1-clause-one
returns-in-1-clause-one c = λ item s. reads_one 1 c.args.line.now c.title.result c.title.ensures item (subst (λ place. SpellsHead place c.args.line.now item)
    c.in-1.is s)

pub returns-in-Some-clause-one : goal.returns-in-Some-clause-one
returns-in-Some-clause-one c = λ item s. reads_one 2 c.args.line.now (Ok (Drift c.in-Some.drift)) (
  refl,
  c.in-Some.ensures.found.0,
  c.in-Some.ensures.found.1,
) item (subst (λ place. SpellsHead place c.args.line.now item) c.in-2.is s)

pub returns-in-3-clause-one : goal.returns-in-3-clause-one
returns-in-3-clause-one c = λ item s. reads_one 3 c.args.line.now c.third_line.result c.third_line.ensures item
    (subst (λ place. SpellsHead place c.args.line.now item) c.in-3.is s)
