use Rattle.std.proofs.Common.{◌∙◌, refl, ap, Some}
use Rattle.tsp_base.specs.declared.act.Act.TheVariants.{Took}
use Rattle.tsp_script.{proofs.Outcomes.some_injective, proofs.Outcomes.none_not_some, specs.Traces.taken_text}
use Rattle.tsp_script.proofs.act_parts.read_took.Goals as goal

pub returns-in_err-from-clause-reads : goal.returns-in_err-from-clause-reads
returns-in_err-from-clause-reads c = λ from t p h e. absurd (c.in_err-from.ensures.reads from (taken_text t) p e)

pub returns-in_err-taken-clause-reads : goal.returns-in_err-taken-clause-reads
returns-in_err-taken-clause-reads c = λ from t p h e.
    let w = c.in_ok-from.ensures.reads from (taken_text t) p e in
    absurd (none_not_some t (c.in_err-taken.ensures.reads t h w.1))

pub returns-clause-reads : goal.returns-clause-reads
returns-clause-reads c = λ from t p h e.
    let w = c.in_ok-from.ensures.reads from (taken_text t) p e in
    let s = some_injective _ _ (c.in_ok-taken.ensures.reads t h w.1) in
    ap (λ x. Some (Took x c.in_ok-taken.taken)) w.0 ∙ ap (λ x. Some (Took from x)) s

pub returns-clause-found : goal.returns-clause-found
returns-clause-found c = (
  (refl, c.in_ok-from.ensures.found.1 ∙ rw c.in_ok-taken.ensures.found.0 refl),
  ((c.in_ok-from.ensures.found.0, c.in_ok-taken.ensures.found.1), refl),
)
