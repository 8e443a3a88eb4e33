-- What the guards of rows tell.
use Rattle.std.proofs.Common.{sym, subst, inl, inr, arith, true≢false, eqb-true, ap, ◌∙◌, ◌≡◌, ◌≢◌, ◌⊎◌, ◌≤◌, ℕ, ◌+◌, ℤ, neg_ℤ, ◌<ℤ◌, ◌==◌, ◌&&◌, nat_le, true}
use Rattle.std.proofs.Common.{false, Option, None, Some, refl}
use Rattle.std.proofs.lemmas.{Bool.leb-true, Bool.and_parts, Bool.or_cases, Int.ints}
use Rattle.tsp_rules.specs.Values.{PeerId, Role, Starting, Master, ELECT_MIN, HOLD, LIMIT, SLACK}
use Rattle.tsp_base.specs.Words.{Held, is_past, may_back, may_back_after, may_stand, peer_of}
use Rattle.tsp_rules.specs.Guards.{is_clock_value, is_over, is_met, is_starting_role, is_master}

pub same_peer : (q p : PeerId) → (q.0 == p.0) ≡ true → q ≡ p
same_peer q p e = ap peer_of (eqb-true q.0 p.0 e)

-- an alarm that is due
pub record IsDue (o : Option ℕ) (x : ℕ) : Type 0 where
  pub at : ℕ
  pub is : o ≡ Some at
  pub over : at ≤ x

pub due_is : (o : Option ℕ) (x : ℕ) → is_over o x ≡ true → IsDue o x
due_is None x e = absurd (true≢false (sym e))
due_is (Some at) x e = record { at = at; is = refl; over = leb-true at x e }

pub met_is : (o : Option ℕ) (x at : ℕ) → o ≡ Some at → is_met o x ≡ true → x ≤ at + SLACK
met_is o x at is e = leb-true x (at + SLACK) (subst (λ k. is_met k x ≡ true) is e)

pub past_is : (o : Option ℕ) (long x : ℕ) → is_past o long x ≡ true → (t : ℕ) → o ≡ Some t → t + long ≤ x
past_is o long x e t is = leb-true (t + long) x (subst (λ k. is_past k long x ≡ true) is e)

pub back_is : (o : Option (ℕ × PeerId)) (x : ℕ) (p : PeerId) → may_back_after o x p ≡ true → (b : ℕ × PeerId) → o ≡ Some b → (b.1 ≡ p) ⊎ (b.0 + HOLD ≤ x)
back_is o x p e b is = elim (or_cases (b.1.0 == p.0) (nat_le (b.0 + HOLD) x) (subst (λ k. may_back_after k x p ≡ true) is e)) [
  | inl s ↦ inl (same_peer b.1 p s)
  | inr l ↦ inr (leb-true (b.0 + HOLD) x l)
]

-- what may_stand says
pub record MayStand (h : Held) (x : ℕ) (own : PeerId) : Type 0 where
  pub boot : h.boot + ELECT_MIN ≤ x
  pub quit : (t : ℕ) → h.quit ≡ Some t → t + ELECT_MIN ≤ x
  pub back : may_back h x own ≡ true

pub stand_is : (h : Held) (x : ℕ) (own : PeerId) → may_stand h x own ≡ true → MayStand h x own
stand_is h x own e =
    let one = and_parts (nat_le (h.boot + ELECT_MIN) x) (is_past h.quit ELECT_MIN x && may_back h x own) e in
    let two = and_parts (is_past h.quit ELECT_MIN x) (may_back h x own) one.1 in
    record { boot = leb-true (h.boot + ELECT_MIN) x one.0; quit = past_is h.quit ELECT_MIN x two.0; back = two.1 }

pub awake_is : (r : Role) → is_starting_role r ≡ false → r ≢ Starting
awake_is r e is = true≢false (sym (subst (λ k. is_starting_role k ≡ true) (sym is) refl) ∙ e)

pub master_is : (r : Role) → is_master r ≡ true → r ≡ Master
master_is Master e = refl
master_is _ e = absurd (true≢false (sym e))

-- the ends of a clock's range
pub clock_low : (z : ℤ) → is_clock_value z ≡ true → neg_ℤ LIMIT <ℤ z
clock_low z e = grind (arith, ints)

pub clock_high : (z : ℤ) → is_clock_value z ≡ true → z <ℤ LIMIT
clock_high z e = grind (arith, ints)
