-- Acts that don't correct the clock.
use Rattle.std.proofs.Common.{ap, ◌∙◌, ◌≡◌, ◌||◌, ℕ, true, false, List, [], ◌∷◌, refl}
use Rattle.std.proofs.lemmas.Bool.{false≢true}
use Rattle.tsp_base.specs.Words.{Past, Row}
use Rattle.tsp_rules.specs.{RoundRows.corrects, RoundRows.is_correct, Values.Act, Values.Correct}
use Rattle.tsp_rules.proofs.Emits.{Sort, Acking, Alarming, Asking, Backing, Changing, Closing, Correcting, Counting, Following, Giving, Leading, Numbering}
use Rattle.tsp_rules.proofs.Emits.{Passing, Posting, Rivalling, Rounding, Sampling, Tabling, Taking, Tracing, AllOf, Emits, is_in, sort_of}

-- all sorts but Boot and Correct
abbrev pub still_sorts : List Sort
still_sorts = Taking ∷ Asking ∷ Correcting ∷ Numbering ∷ Passing ∷ Posting ∷ Leading ∷ Following ∷ Changing ∷ Backing ∷ Counting ∷ Rounding ∷ Alarming ∷
    Tabling ∷ Rivalling ∷ Acking ∷ Giving ∷ Sampling ∷ Closing ∷ Tracing ∷ []

-- acts without a Correct
pub corrects_none : (acts : List Act) → AllOf still_sorts acts → corrects acts ≡ false
corrects_none [] h = refl
corrects_none (a ∷ acts) h = ap (λ b. b || corrects acts) (by_act a h.0) ∙ corrects_none acts h.1 where
  by_act : (k : Act) → is_in (sort_of k) still_sorts ≡ true → is_correct k ≡ false
  by_act (Correct amount stepped shown) e = absurd (false≢true e)
  by_act _ e = refl

-- a row of such acts
pub row_corrects_none : {row : Row} → Emits still_sorts row → (x : ℕ) (past : Past) → corrects (row x past) ≡ false
row_corrects_none {row} e x past = corrects_none (row x past) (e.only x past)
