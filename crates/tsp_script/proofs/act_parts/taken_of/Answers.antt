use Rattle.std.proofs.Common.{◌≡◌, ap, Some}
use Rattle.tsp_base.specs.declared.datagram.Taken.TheVariants.{Bad}
use Rattle.tsp_script.proofs.{ActTexts.refused_case, Outcomes.some_injective, Outcomes.none_not_some}
use Rattle.tsp_script.proofs.act_parts.taken_of.Goals as goal

pub returns-in_err-fault_of-clause-reads : goal.returns-in_err-fault_of-clause-reads
returns-in_err-fault_of-clause-reads c = λ t h e.
    refused_case (λ x. c.from_residual.result ≡ Some x) c.args.text.now c.in-Some.rest.now t e c.in-Some.ensures
    (λ f w. absurd (none_not_some f (c.in_err-fault_of.ensures.reads f w)))

pub returns-in-Some-clause-reads : goal.returns-in-Some-clause-reads
returns-in-Some-clause-reads c = λ t h e.
    refused_case (λ x. Some (Bad c.in_ok-fault_of.field-0) ≡ Some x) c.args.text.now c.in-Some.rest.now t e c.in-Some.ensures
    (λ f w. ap (λ x. Some (Bad x)) (some_injective _ _ (c.in_ok-fault_of.ensures.reads f w)))
