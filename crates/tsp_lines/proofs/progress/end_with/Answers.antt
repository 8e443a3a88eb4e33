use Rattle.std.proofs.Common.{refl, ap, inl, inr, Err}
use Rattle.tsp_lines.specs.Turns.{only_so}
use Rattle.tsp_lines.proofs.{Leaving.Counts_fault, Leaving.not_others, Outputs.Ends_broken, Outputs.cut_so}
use Rattle.tsp_lines.proofs.progress.end_with.Goals as goal

pub returns-in-Ok-clause-ends : goal.returns-in-Ok-clause-ends
returns-in-Ok-clause-ends g c = elim c.requires.told [
  | inl e ↦ rw e (c.args.words.now, refl, c.in-Ok.ensures.ok)
  | inr e ↦
      rw e (c.args.words.now, refl, c.in-Ok.ensures.ok)
]

pub returns-in-Err : goal.returns-in-Err
returns-in-Err g c = record {
  ends = rw c.outcome_of.ensures (Ends_broken (only_so c.args.outcome c.args.words.now) _ _ c.args.output.now c.say.new.output c.in-Err.fault
      (cut_so c.args.outcome c.args.words.now _ _ c.args.output.now c.say.new.output c.requires.told c.in-Err.ensures.err)
      (λ e. c.in-Err.ensures.unwritten (ap Err e)));
  writes = Counts_fault _ _ c.say.result c.in-Err.fault c.outcome_of.result c.outcome_of.ensures c.in-Err.is c.say.ensures.writes;
  kind = not_others c.in-Err.fault c.outcome_of.result c.outcome_of.ensures;
}
