use Rattle.std.proofs.Common.{◌≡◌, ◌∙◌, ◌++◌, ◌∷◌, [], ap, refl, sym, rules, append_assoc, ℤ}
use Rattle.std.{proofs.lemmas.Int.to_z-of_z, specs.Fmt.signed_decimal, specs.Int.w64, specs.Int.RustNames.FitsSigned}
use mir.Val.{to_z, of_z}
use Rattle.tsp_base.specs.{Words.IsMicros, declared.message.Body.TheVariants.Time}
use Rattle.tsp_script.{proofs.Bodies.time_case, proofs.Bodies.fits_micros, specs.Ranges.IsBody, specs.Texts.body_text}
use Rattle.tsp_script.proofs.message_reader.next_time.Goals as goal

pub returns-in_err-time-clause-reads : goal.returns-in_err-time-clause-reads
returns-in_err-time-clause-reads c = λ body rest b i e.
    absurd (time_case (λ x. IsBody x → c.args.line.now ≡ body_text x ++ rest → ⊥) body i (λ t h l. c.in_err-time.ensures.reads t rest (fits_micros t h) (l ∙
    append_assoc (signed_decimal t) (32 ∷ []) rest)) b e)

pub returns-in_err-time-2-clause-reads : goal.returns-in_err-time-2-clause-reads
returns-in_err-time-2-clause-reads c = λ body rest b i e.
    absurd (time_case (λ x. IsBody x → c.args.line.now ≡ body_text x ++ rest → ⊥) body i
    (λ t h l.
    let a = c.in_ok-time.ensures.reads t rest (fits_micros t h) (l ∙ append_assoc (signed_decimal t) (32 ∷ []) rest) in
    let back : to_z w64 (of_z w64 c.in_ok-time.time) ≡ t = ap (λ (z : ℤ). to_z w64 (of_z w64 z)) a.0 ∙ to_z-of_z w64 t (fits_micros t h) in
    let good : IsMicros (to_z w64 (of_z w64 c.in_ok-time.time)) = rw back h in
    let some = c.in_err-time-2.ensures.variant.1 good in
    cc) b e)

pub returns-clause-found : goal.returns-clause-found
returns-clause-found c =
    let fits : FitsSigned w64 c.in_ok-time.time = search rules in
    let same = c.in_ok-time-2.ensures.value ∙ to_z-of_z w64 c.in_ok-time.time fits in
    let good : IsMicros c.in_ok-time-2.time = rw c.in_ok-time-2.ensures.value (c.in_ok-time-2.ensures.variant.0 refl) in
    (good, tt, rw same (c.in_ok-time.ensures.found ∙ sym (append_assoc (signed_decimal c.in_ok-time.time) (32 ∷ []) c.in_ok-time.rest.now)))

pub returns-clause-reads : goal.returns-clause-reads
returns-clause-reads c = λ body rest b i e.
    time_case (λ x. IsBody x → c.args.line.now ≡ body_text x ++ rest → (Time c.in_ok-time-2.time ≡ x) × (c.in_ok-time.rest.now ≡ rest)) body i
    (λ t h l.
    let a = c.in_ok-time.ensures.reads t rest (fits_micros t h) (l ∙ append_assoc (signed_decimal t) (32 ∷ []) rest) in
    let back = ap (λ (z : ℤ). to_z w64 (of_z w64 z)) a.0 ∙ to_z-of_z w64 t (fits_micros t h) in
    (ap Time (c.in_ok-time-2.ensures.value ∙ back), a.1)) b e
