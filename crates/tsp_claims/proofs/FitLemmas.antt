-- How lines fit that are looked at one after the other.
use Rattle.std.proofs.Common.{◌∙◌, ap, arith, refl, subst, sym, ◌≡◌, ℕ, zero, suc, ◌+◌, ◌<◌, ◌≤◌, true, List, ◌∷◌, length, drop, get_or}
use Rattle.std.proofs.lemmas.List.{drop_more, drop_all}
use Rattle.tsp_base.specs.declared.{act.Act.Act, act.Act.TheVariants.Post, event.Event.Event, trace.Line2.Line2}
use Rattle.tsp_claims.specs.{Fitting.AllFit, Fitting.Misfits, Fitting.counted, Fitting.lacks, Fitting.untold, declared.tally.Tally.Tally}
use Rattle.tsp_run.specs.Run.{posts_by}

-- an act posts one datagram at the most
pub claims_of_step_few : (a : Act) → posts_by a ≤ 1
claims_of_step_few (Post to datagram) = omega arith
claims_of_step_few _ = omega arith

-- what the lines that are left are to all lines, behind those that were counted
pub record Left (fits : Event → Tally → Line2 → Type 0) (e : Event) (t : Tally) (i : ℕ) (lines : List Line2) : Type 0 where
  pub fit : AllFit fits e t (drop i lines) → AllFit fits e untold lines
  pub misfit : (j : ℕ) → Misfits fits e t (drop i lines) j → Misfits fits e untold lines (i + j)

module _ (fits : Event → Tally → Line2 → Type 0) (e : Event) (t : Tally) (i : ℕ) (lines : List Line2) (left : Left fits e t i lines) where
  left_is : (l : Line2) → i < length lines → get_or lines i l ≡ l → drop i lines ≡ (l ∷ drop (i + 1) lines)
  left_is l below is = drop_more lines i l below ∙ ap (λ (k : Line2). k ∷ drop (i + 1) lines) is

  -- a line that fits is counted
  pub left_next : (l : Line2) → i < length lines → get_or lines i l ≡ l → fits e t l → Left fits e (counted t l.placed.act) (i + 1) lines
  left_next l below is f = record {
    fit = λ h. left.fit (subst (λ ls. AllFit fits e t ls) (sym (left_is l below is)) (f, h));
    misfit = λ j m. subst (λ k. Misfits fits e untold lines k) (omega arith) (left.misfit (suc j)
        (subst (λ ls. Misfits fits e t ls (suc j)) (sym (left_is l below is)) (f, m)));
  }

  -- one that doesn't is the first
  pub left_misfits : (l : Line2) → i < length lines → get_or lines i l ≡ l → ¬ fits e t l → Misfits fits e untold lines i
  left_misfits l below is f = subst (λ k. Misfits fits e untold lines k) (omega arith)
      (left.misfit zero (subst (λ ls. Misfits fits e t ls zero) (sym (left_is l below is)) f))

  -- all fit, and something lacks
  pub left_lacks : length lines ≤ i → lacks e t ≡ true → Misfits fits e untold lines i
  left_lacks past some = subst (λ k. Misfits fits e untold lines k) (omega arith)
      (left.misfit zero (subst (λ ls. Misfits fits e t ls zero) (sym (drop_all i lines past)) (some, refl)))
