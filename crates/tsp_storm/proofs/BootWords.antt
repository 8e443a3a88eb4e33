-- The words of a storm's boots differ: modulo 128 the generator runs through all 128 states.
use Rattle.std.proofs.Common.{sym, ap, ◌∙◌, subst, arith, inl, inr, ◌≡◌, ◌≢◌, ℕ, zero, suc, ◌+◌, ◌*◌, ◌%◌, ◌<◌, ◌≤◌, ◌==◌, ◌&&◌, not, Bool, true, List, [], ◌∷◌}
use Rattle.std.proofs.Common.{length, refl}
use Rattle.std.proofs.lemmas.Bool.{and_parts, not-true, eqb-false, cases_lt}
use Rattle.std.proofs.lemmas.Nat.{mod_below}
use Rattle.tsp_rules.specs.Values.{Event, BootAt, Turn, Take, Bytes}
use Rattle.tsp_run.specs.Premised.{AllBootOtherwise}
use Rattle.tsp_script.specs.Storms.{StormValue, moved}

-- the next state, modulo 128
abbrev pub next_low : ℕ → ℕ
next_low x = (x * 6364136223846793005 + 1442695040888963407) % 128

-- the state after so many moves
abbrev pub low_after : ℕ → ℕ → ℕ
low_after zero x = x
low_after (suc n) x = low_after n (next_low x)

-- none of the next n states behind y is x
abbrev never : ℕ → ℕ → ℕ → Bool
never zero x y = true
never (suc n) x y = not (next_low y == x) && never n x (next_low y)

-- no state below n comes again within 64 moves
abbrev none_again : ℕ → Bool
none_again zero = true
none_again (suc x) = never 64 x x && none_again x

none_again_holds : none_again 128 ≡ true
none_again_holds = refl

one_never : (n x : ℕ) → x < n → none_again n ≡ true → never 64 x x ≡ true
one_never zero x lt e = absurd (omega (arith, lt))
one_never (suc n) x lt e =
    let parts = and_parts (never 64 n n) (none_again n) e in
    elim (cases_lt x n) [
      | inl less ↦ one_never n x less parts.1
      | inr last ↦ (let same : n ≡ x = omega (arith, lt, last) in subst (λ k. never 64 k k ≡ true) same parts.0)
    ]

differs : (n x y k : ℕ) → never n x y ≡ true → k < n → low_after (suc k) y ≢ x
differs zero x y k e lt same = absurd (omega (arith, lt))
differs (suc n) x y zero e lt same =
    let parts = and_parts (not (next_low y == x)) (never n x (next_low y)) e in
    eqb-false (next_low y) x (not-true (next_low y == x) parts.0) same
differs (suc n) x y (suc k) e lt same =
    let parts = and_parts (not (next_low y == x)) (never n x (next_low y)) e in
    differs n x (next_low y) k parts.1 (omega (arith, lt)) same

-- a state doesn't come again within 64 moves
not_again : (k x : ℕ) → x < 128 → k < 64 → low_after (suc k) x ≢ x
not_again k x small few = differs 64 x x k (one_never 128 x small none_again_holds) few

-- a move goes on modulo 128
pub moved_low : (v : StormValue) → (moved v).state % 128 ≡ next_low (v.state % 128)
moved_low v = omega arith

-- boots whose words are successive states, of which the last is this one modulo 128
abbrev pub Follow : ℕ → List Event → Type 0
Follow x [] = Unit {0}
Follow x (BootAt at node word ∷ before) = (y : ℕ) × (word % 128 ≡ x) × (x ≡ next_low y) × Follow y before
Follow x (_ ∷ before) = ⊥

-- a word that comes soon after them is none of theirs
pub boot_otherwise : (k x word : ℕ) (events : List Event) → word % 128 ≡ low_after (suc k) x → k + length events ≤ 64 → Follow x events →
    AllBootOtherwise word events
boot_otherwise k x word [] is few f = tt
boot_otherwise k x word (BootAt at node w ∷ before) is few f = (
  (λ (e : w ≡ word). not_again k x (subst (λ z. z < 128) f.1 (mod_below w 128 (omega arith))) (omega (arith, few)) (sym is ∙ ap (λ z. z % 128) (sym e) ∙ f.1)),
  boot_otherwise (suc k) f.0 word before (is ∙ ap (λ z. low_after (suc k) z) f.2) (omega (arith, few)) f.3,
)
boot_otherwise k x word (Turn at node ∷ before) is few f = absurd f
boot_otherwise k x word (Take at n ∷ before) is few f = absurd f
boot_otherwise k x word (Bytes at node port from octets ∷ before) is few f = absurd f
