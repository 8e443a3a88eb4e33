use Rattle.std.proofs.Common.{◌∙◌, ◌++◌, ◌∷◌, ℕ, ℤ, List, ap, arith, rules, refl, Some, decimal}
use mir.Val.{to_z, of_z}
use Rattle.std.{proofs.lemmas.Int.to_z-of_z, specs.Fmt.signed_decimal, specs.Int.w64, specs.Int.RustNames.FitsSigned}
use Rattle.tsp_script.proofs.{ActTexts.sample_of_parts, Outcomes.none_not_some, Outcomes.some_injective}
use Rattle.tsp_script.proofs.act_parts.read_sample.Goals as goal

-- what follows the peer, the counter and the difference
abbrev behind_diff : ℤ → ℕ → List ℕ
behind_diff err ticket = signed_decimal err ++ 32 ∷ decimal ticket

abbrev behind_counter : ℤ → ℤ → ℕ → List ℕ
behind_counter diff err ticket = signed_decimal diff ++ 32 ∷ behind_diff err ticket

abbrev behind_peer : ℕ → ℤ → ℤ → ℕ → List ℕ
behind_peer counter diff err ticket = decimal counter ++ 32 ∷ behind_counter diff err ticket

pub returns-in_err-peer-clause-reads : goal.returns-in_err-peer-clause-reads
returns-in_err-peer-clause-reads c = λ p counter diff err ticket h k d f t e.
    absurd (c.in_err-peer.ensures.reads p.0 (behind_peer counter diff err ticket) h e)

pub returns-in_err-counter-clause-reads : goal.returns-in_err-counter-clause-reads
returns-in_err-counter-clause-reads c = λ p counter diff err ticket h k d f t e.
    let a = c.in_ok-peer.ensures.reads p.0 (behind_peer counter diff err ticket) h e in
    absurd (c.in_err-counter.ensures.reads counter (behind_counter diff err ticket) k a.1)

pub returns-in_err-diff-clause-reads : goal.returns-in_err-diff-clause-reads
returns-in_err-diff-clause-reads c = λ p counter diff err ticket h k d f t e.
    let a = c.in_ok-peer.ensures.reads p.0 (behind_peer counter diff err ticket) h e in
    let b = c.in_ok-counter.ensures.reads counter (behind_counter diff err ticket) k a.1 in
    absurd (c.in_err-diff.ensures.reads diff (behind_diff err ticket) d b.1)

pub returns-in_err-err-clause-reads : goal.returns-in_err-err-clause-reads
returns-in_err-err-clause-reads c = λ p counter diff err ticket h k d f t e.
    let a = c.in_ok-peer.ensures.reads p.0 (behind_peer counter diff err ticket) h e in
    let b = c.in_ok-counter.ensures.reads counter (behind_counter diff err ticket) k a.1 in
    let x = c.in_ok-diff.ensures.reads diff (behind_diff err ticket) d b.1 in
    absurd (c.in_err-err.ensures.reads err (decimal ticket) f x.1)

pub returns-in_err-ticket-clause-reads : goal.returns-in_err-ticket-clause-reads
returns-in_err-ticket-clause-reads c = λ p counter diff err ticket h k d f t e.
    let a = c.in_ok-peer.ensures.reads p.0 (behind_peer counter diff err ticket) h e in
    let b = c.in_ok-counter.ensures.reads counter (behind_counter diff err ticket) k a.1 in
    let x = c.in_ok-diff.ensures.reads diff (behind_diff err ticket) d b.1 in
    let y = c.in_ok-err.ensures.reads err (decimal ticket) f x.1 in
    absurd (none_not_some _ (c.in_err-ticket.ensures.reads ticket (omega (arith, t)) y.1))

pub returns-in_err-ticket-2-clause-reads : goal.returns-in_err-ticket-2-clause-reads
returns-in_err-ticket-2-clause-reads c = λ p counter diff err ticket h k d f t e.
    let a = c.in_ok-peer.ensures.reads p.0 (behind_peer counter diff err ticket) h e in
    let b = c.in_ok-counter.ensures.reads counter (behind_counter diff err ticket) k a.1 in
    let x = c.in_ok-diff.ensures.reads diff (behind_diff err ticket) d b.1 in
    let y = c.in_ok-err.ensures.reads err (decimal ticket) f x.1 in
    let z = some_injective _ _ (c.in_ok-ticket.ensures.reads ticket (omega (arith, t)) y.1) in
    absurd (none_not_some _ (c.in_err-ticket-2.ensures.fits (omega (arith, z, t))))

pub returns-clause-reads : goal.returns-clause-reads
returns-clause-reads c = λ p counter diff err ticket h k d f t e.
    let a = c.in_ok-peer.ensures.reads p.0 (behind_peer counter diff err ticket) h e in
    let b = c.in_ok-counter.ensures.reads counter (behind_counter diff err ticket) k a.1 in
    let x = c.in_ok-diff.ensures.reads diff (behind_diff err ticket) d b.1 in
    let y = c.in_ok-err.ensures.reads err (decimal ticket) f x.1 in
    let z = some_injective _ _ (c.in_ok-ticket.ensures.reads ticket (omega (arith, t)) y.1) in
    let near = ap (λ (v : ℤ). to_z w64 (of_z w64 v)) x.0 ∙ to_z-of_z w64 diff d in
    let wide = ap (λ (v : ℤ). to_z w64 (of_z w64 v)) y.0 ∙ to_z-of_z w64 err f in
    ap Some (sample_of_parts _ _ _ _ _ p counter diff err ticket a.0 b.0 near wide (c.in_ok-ticket-2.ensures.same.0 ∙ z))

pub returns-clause-found : goal.returns-clause-found
returns-clause-found c =
    let diff : FitsSigned w64 c.in_ok-diff.diff = search rules in
    let err : FitsSigned w64 c.in_ok-err.err = search rules in (
      (
        refl,
        c.in_ok-peer.ensures.found.1 ∙ rw (
          c.in_ok-counter.ensures.found.1,
          c.in_ok-diff.ensures.found,
          c.in_ok-err.ensures.found,
          c.in_ok-ticket.ensures.found,
          c.in_ok-ticket-2.ensures.same.0,
          to_z-of_z w64 c.in_ok-diff.diff diff,
          to_z-of_z w64 c.in_ok-err.err err,
        ) refl,
      ),
      ((c.in_ok-peer.ensures.found.0, c.in_ok-counter.ensures.found.0, search rules, search rules, c.in_ok-ticket-2.ensures.same.1), refl),
    )
