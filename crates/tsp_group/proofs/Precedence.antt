-- Lemmas on which of two groups goes first.
use Rattle.std.proofs.Common.{◌≡◌, refl, ℕ, ◌==◌, nat_lt, Bool, true, false, cond, ℤ, arith, int_lt, unsigned_abs}
use Rattle.std.{proofs.lemmas.Bool.Decides.nat_tests, proofs.lemmas.Int.ints, specs.Cmp.IsStrictWeakOrder}
use Rattle.tsp_group.specs.{Groups.goes_before, Groups.better, declared.group.Group.Group}

int_lt_one_way : (x y : ℤ) → int_lt x y ≡ true → int_lt y x ≡ false
int_lt_one_way x y h = grind (arith, ints)

int_lt_chain : (x y z : ℤ) → int_lt x y ≡ false → int_lt y z ≡ false → int_lt x z ≡ false
int_lt_chain x y z h k = grind (arith, ints)

up_one_way : (a b : ℕ) (p q : Bool) → (p ≡ true → q ≡ false) → cond (a == b) p (nat_lt a b) ≡ true → cond (b == a) q (nat_lt b a) ≡ false
up_one_way a b p q h k = grind (arith, nat_tests)

up_chain : (a b c : ℕ) (p q r : Bool) → (p ≡ false → q ≡ false → r ≡ false) → cond (a == b) p (nat_lt a b) ≡ false → cond (b == c) q (nat_lt b c) ≡ false →
    cond (a == c) r (nat_lt a c) ≡ false
up_chain a b c p q r h k l = grind (arith, nat_tests)

down_one_way : (a b : ℕ) (p q : Bool) → (p ≡ true → q ≡ false) → cond (a == b) p (nat_lt b a) ≡ true → cond (b == a) q (nat_lt a b) ≡ false
down_one_way a b p q h k = grind (arith, nat_tests)

down_chain : (a b c : ℕ) (p q r : Bool) → (p ≡ false → q ≡ false → r ≡ false) → cond (a == b) p (nat_lt b a) ≡ false → cond (b == c) q (nat_lt c b) ≡ false →
    cond (a == c) r (nat_lt c a) ≡ false
down_chain a b c p q r h k l = grind (arith, nat_tests)

pub goes_before_order : IsStrictWeakOrder goes_before
unfolding goes_before
goes_before_order = record {
  one_way = λ g h. down_one_way g.count h.count _ _ (up_one_way (unsigned_abs g.width) (unsigned_abs h.width) _ _
      (up_one_way (unsigned_abs g.lo) (unsigned_abs h.lo) _ _ (int_lt_one_way g.lo h.lo)));
  chain = λ g h k. down_chain g.count h.count k.count _ _ _ (up_chain (unsigned_abs g.width) (unsigned_abs h.width) (unsigned_abs k.width) _ _ _
      (up_chain (unsigned_abs g.lo) (unsigned_abs h.lo) (unsigned_abs k.lo) _ _ _ (int_lt_chain g.lo h.lo k.lo)));
}

up_tie : (a b : ℕ) (p q : Bool) → cond (a == b) p (nat_lt a b) ≡ false → cond (b == a) q (nat_lt b a) ≡ false → (p ≡ false) × (q ≡ false)
up_tie a b p q h k = (grind (arith, nat_tests), grind (arith, nat_tests))

down_tie : (a b : ℕ) (p q : Bool) → cond (a == b) p (nat_lt b a) ≡ false → cond (b == a) q (nat_lt a b) ≡ false → (p ≡ false) × (q ≡ false)
down_tie a b p q h k = (grind (arith, nat_tests), grind (arith, nat_tests))

lo_tie : (x y : ℤ) → int_lt x y ≡ false → int_lt y x ≡ false → x ≡ y
lo_tie x y h k = grind (arith, ints)

-- two groups of which none goes before the other have one lo
pub goes_before_tie : (g h : Group) → goes_before g h ≡ false → goes_before h g ≡ false → g.lo ≡ h.lo
unfolding goes_before
goes_before_tie g h p q =
    let a = down_tie g.count h.count _ _ p q in
    let b = up_tie (unsigned_abs g.width) (unsigned_abs h.width) _ _ a.0 a.1 in
    let c = up_tie (unsigned_abs g.lo) (unsigned_abs h.lo) _ _ b.0 b.1 in
    lo_tie g.lo h.lo c.0 c.1

not_itself : (b : Bool) → (b ≡ true → b ≡ false) → b ≡ false
not_itself true h = h refl
not_itself false h = refl

pub goes_before_same : (g : Group) → goes_before g g ≡ false
goes_before_same g = not_itself (goes_before g g) (goes_before_order.one_way g g)

left_by : (a h : Group) (t : Bool) → goes_before h a ≡ t → goes_before a (cond t h a) ≡ false
left_by a h true e = goes_before_order.one_way h a e
left_by a h false e = goes_before_same a

right_by : (a h : Group) (t : Bool) → goes_before h a ≡ t → goes_before h (cond t h a) ≡ false
right_by a h true e = goes_before_same h
right_by a h false e = e

pub better_left : (a h : Group) → goes_before a (better a h) ≡ false
unfolding better
better_left a h = left_by a h (goes_before h a) refl

pub better_right : (a h : Group) → goes_before h (better a h) ≡ false
unfolding better
better_right a h = right_by a h (goes_before h a) refl

-- a group that doesn't go before changes nothing
pub better_stays : (a h : Group) → goes_before h a ≡ false → better a h ≡ a
unfolding better
better_stays a h e = rw e refl

pub better_takes : (a h : Group) → goes_before h a ≡ true → better a h ≡ h
unfolding better
better_takes a h e = rw e refl
