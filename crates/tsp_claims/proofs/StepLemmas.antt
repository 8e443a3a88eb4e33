-- Steps as values, and how their lines are noted.
use Rattle.std.proofs.Common.{◌∙◌, ap, sym, refl, ◌≡◌, ℕ, ◌+◌, ◌<◌, List, ◌∷◌, length, drop, get_or, Option, None, Some}
use Rattle.std.proofs.lemmas.List.{drop_more}
use Rattle.tsp_base.specs.Words.{HeaderValue, Acts, Line, Step, joined, line_of as line_in}
use Rattle.tsp_claims.specs.{Fitting.acts_of, Steps.ActsIn, Steps.step_by, declared.acting.Acting.Acting}
use Rattle.tsp_run.specs.Run.{step_tick}
use Rattle.tsp_base.specs.declared.trace.Line2.{Line2}

-- a step that these values are
pub record Acts_by (header : HeaderValue) (o : Option Step) (a : Acting) : Type 0 where
  pub step_is : o ≡ Some (step_by a)
  pub tick_is : a.tick ≡ step_tick header (step_by a)

-- values that stand for a step are the step
pub acts_in : (header : HeaderValue) (o : Option Step) (a : Acting) → ActsIn header o (Some a) → Acts_by header o a
acts_in header None a h = absurd h
acts_in header (Some step) a h = record { step_is = ap (λ s. Some s) (sym h.step_is); tick_is = h.tick_is ∙ ap (λ s. step_tick header s) (sym h.step_is) }

-- no values stand for no step
pub acts_out : (header : HeaderValue) (o : Option Step) → ActsIn header o None → o ≡ None
acts_out header None h = refl
acts_out header (Some step) h = absurd h

-- the acts that are left, one line on
pub acts_next : (lines : List Line2) (i : ℕ) (l : Line2) → i < length lines → get_or lines i l ≡ l → acts_of (drop i lines) ≡
    (l.placed ∷ acts_of (drop (i + 1) lines))
acts_next lines i l below is = ap (λ ls. acts_of ls) (drop_more lines i l below) ∙ ap (λ (k : Line2). k.placed ∷ acts_of (drop (i + 1) lines)) is

-- noting the line of an act leaves one act less to be joined
pub note_next : (s : Step) (x : ℕ) (lines : List Line2) (i : ℕ) (l : Line2) (k : Line) (h : List Line) → i < length lines → get_or lines i l ≡ l → k ≡
    line_in s x l.placed.port (Acts l.placed.act) →
    joined s x (acts_of (drop (i + 1) lines)) (k ∷ h) ≡ joined s x (acts_of (drop i lines)) h
note_next s x lines i l k h below is same =
    ap (λ (m : Line). joined s x (acts_of (drop (i + 1) lines)) (m ∷ h)) same ∙ sym (ap (λ acts. joined s x acts h) (acts_next lines i l below is))
