-- How a history of noted lines grows.
use Rattle.std.proofs.Common.{◌∙◌, ap, sym, subst, arith, refl, ◌⊎◌, inl, inr, ◌≡◌, ◌<◌, ◌≤◌, ◌+◌, ℕ, zero, suc, Bool, true, false, MatchBool, List, [], ◌∷◌}
use Rattle.std.proofs.Common.{◌++◌, length, get_or, take}
use Rattle.std.proofs.lemmas.List.{take_more}
use Rattle.tsp_promises.specs.{Everywhere.Everywhere, Fits.node_of}
use Rattle.tsp_base.specs.{Words.Acts, Words.Line, Words.Within, declared.act.Act.TheVariants.Back, declared.constants.TheConstants.HOLD}
use Rattle.tsp_base.{proofs.PlaceLemmas.Within_all, specs.declared.place.PeerId.PeerId, specs.declared.place.Port.Port}
use Rattle.tsp_history.specs.declared.line.HistoryLine.{HistoryLine}
use Rattle.tsp_history.specs.{Histories.line_of, Histories.noted_after, Histories.history_of, Holding.HoldsApart}

-- what holds at every place of a longer history holds at every place of a shorter one
pub Everywhere_before : (P : Line → List Line → Type 0) (h : List Line) (ns : List HistoryLine) → Everywhere P (noted_after h ns) → Everywhere P h
Everywhere_before P h [] e = e
Everywhere_before P h (n ∷ rest) e = (Everywhere_before P (line_of n ∷ h) rest e).1

-- a Back for another candidate that is too near isn't apart
not_apart : (n : ℕ) (q : Port) (x : ℕ) (p c : PeerId) (l : Line) → node_of l ≡ n → l.port ≡ q → l.did.deed ≡ Acts (Back c) → (c ≡ p → ⊥) →
    x < l.did.tick + HOLD → HoldsApart n q x p l → ⊥
not_apart n q x p c l node port deed other near apart = by_case (apart c node port deed) where
  by_case : (c ≡ p) ⊎ (l.did.tick + HOLD ≤ x) → ⊥
  by_case (inl e) = other e
  by_case (inr le) = omega (arith, near, le)

-- a place of a history is a place of a longer one
pub Within_after : (s h : List Line) (ns : List HistoryLine) → Within s h → Within s (noted_after h ns)
Within_after s h [] w = w
Within_after s h (n ∷ rest) w = Within_after s (line_of n ∷ h) rest (inr w)

-- lines, and then more lines
pub noted_append : (h : List Line) (ns ms : List HistoryLine) → noted_after h (ns ++ ms) ≡ noted_after (noted_after h ns) ms
noted_append h [] ms = refl
noted_append h (n ∷ rest) ms = noted_append (line_of n ∷ h) rest ms

-- one line more
pub history_more : (ns : List HistoryLine) (i : ℕ) (n : HistoryLine) → i < length ns → get_or ns i n ≡ n → history_of (take (i + 1) ns) ≡
    (line_of n ∷ history_of (take i ns))
history_more ns i n below is =
    ap (λ ms. history_of ms) (take_more ns i n below) ∙ noted_append [] (take i ns) (get_or ns i n ∷ []) ∙ ap (λ m. line_of m ∷ history_of (take i ns)) is

-- a line among others stands after those before it
pub Within_noted : (ns : List HistoryLine) (i : ℕ) (n : HistoryLine) → i < length ns → get_or ns i n ≡ n →
    Within (line_of n ∷ history_of (take i ns)) (history_of ns)
Within_noted ns i n below is = within [] ns i below is where
  within : (h : List Line) (ms : List HistoryLine) (j : ℕ) → j < length ms → get_or ms j n ≡ n →
      Within (line_of n ∷ noted_after h (take j ms)) (noted_after h ms)
  within h [] j lt e = let bad : ⊥ = omega (arith, lt) in absurd bad
  within h (m ∷ rest) zero lt e = Within_after (line_of n ∷ h) (line_of m ∷ h) rest (subst (λ k. Within (line_of n ∷ h) (line_of k ∷ h)) (sym e)
      (Within_all (line_of n ∷ h)))
  within h (m ∷ rest) (suc j) lt e = within (line_of m ∷ h) rest j (omega (arith, lt)) e

-- a Back for another candidate is apart exactly where it is far enough before
pub apart_told : (b : Bool) (n : ℕ) (q : Port) (x : ℕ) (p c : PeerId) (l : Line) → node_of l ≡ n → l.port ≡ q → l.did.deed ≡ Acts (Back c) → (c ≡ p → ⊥) →
    MatchBool b (l.did.tick + HOLD ≤ x) (x < l.did.tick + HOLD) →
    MatchBool b (HoldsApart n q x p l) (HoldsApart n q x p l → ⊥)
apart_told true n q x p c l node port deed other far = λ d _ _ _. inr far
apart_told false n q x p c l node port deed other near = not_apart n q x p c l node port deed other near
