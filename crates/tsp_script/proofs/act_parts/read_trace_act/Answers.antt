use Rattle.std.proofs.Common.{ap, refl, Some, Bool}
use Rattle.tsp_base.specs.declared.act.Act.TheVariants.{Trace}
use Rattle.tsp_script.{proofs.Outcomes.none_not_some, proofs.Outcomes.some_injective, specs.Verbs.switch_text}
use Rattle.tsp_script.proofs.act_parts.read_trace_act.Goals as goal

pub returns-in_err-one_of-clause-reads : goal.returns-in_err-one_of-clause-reads
returns-in_err-one_of-clause-reads c = λ on e. absurd (none_not_some _ (c.in_err-one_of.ensures.reads switch_text refl refl on e))

pub returns-clause-reads : goal.returns-clause-reads
returns-clause-reads c = λ on e. ap (λ (b : Bool). Some (Trace b)) (some_injective _ _ (c.in_ok-one_of.ensures.reads switch_text refl refl on e))

pub returns-clause-found : goal.returns-clause-found
returns-clause-found c = ((refl, c.in_ok-one_of.ensures.found switch_text refl refl), (tt, refl))
