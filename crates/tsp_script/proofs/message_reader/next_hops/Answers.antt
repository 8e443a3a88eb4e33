use Rattle.std.proofs.Common.{◌≡◌, ◌∙◌, ◌++◌, ◌∷◌, [], ap, sym, arith, append_assoc, decimal}
use Rattle.tsp_base.specs.declared.message.Body.TheVariants.{Hops}
use Rattle.tsp_script.{proofs.Bodies.hops_case, proofs.Outcomes.none_not_some, specs.Ranges.IsBody, specs.Texts.body_text}
use Rattle.tsp_script.proofs.message_reader.next_hops.Goals as goal

pub returns-in_err-hops-clause-reads : goal.returns-in_err-hops-clause-reads
returns-in_err-hops-clause-reads c = λ body rest b i e.
    absurd (hops_case (λ x. IsBody x → c.args.line.now ≡ body_text x ++ rest → ⊥) body i (λ n h l. c.in_err-hops.ensures.reads n rest (omega (arith, h)) (l ∙
    append_assoc (decimal n) (32 ∷ []) rest)) b e)

pub returns-in_err-hops-2-clause-reads : goal.returns-in_err-hops-2-clause-reads
returns-in_err-hops-2-clause-reads c = λ body rest b i e.
    absurd (hops_case (λ x. IsBody x → c.args.line.now ≡ body_text x ++ rest → ⊥) body i
    (λ n h l. let a = c.in_ok-hops.ensures.reads n rest (omega (arith, h)) (l ∙ append_assoc (decimal n) (32 ∷ []) rest) in
    none_not_some _ (c.in_err-hops-2.ensures.fits (omega (arith, a.0, h)))) b e)

pub returns-clause-found : goal.returns-clause-found
returns-clause-found c =
    let same = c.in_ok-hops-2.ensures.same in
    (same.1, tt, rw same.0 (c.in_ok-hops.ensures.found.1 ∙ sym (append_assoc (decimal c.in_ok-hops.hops) (32 ∷ []) c.in_ok-hops.rest.now)))

pub returns-clause-reads : goal.returns-clause-reads
returns-clause-reads c = λ body rest b i e.
    hops_case (λ x. IsBody x → c.args.line.now ≡ body_text x ++ rest → (Hops c.in_ok-hops-2.hops ≡ x) × (c.in_ok-hops.rest.now ≡ rest)) body i
    (λ n h l. let a = c.in_ok-hops.ensures.reads n rest (omega (arith, h)) (l ∙ append_assoc (decimal n) (32 ∷ []) rest) in
    (ap Hops (c.in_ok-hops-2.ensures.same.0 ∙ a.0), a.1)) b e
