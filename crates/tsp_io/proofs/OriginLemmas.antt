-- From where ticks are counted before and after a change of the rate.
use Rattle.std.proofs.Common.{◌≡◌, ◌≢◌, ◌∙◌, ℕ, ◌+◌, ◌-◌, ◌*◌, ◌/◌, ℤ, pos, ◌+ℤ◌, nat_abs, Bool, true, false, not, ◌&&◌, if◌then◌else◌, Option, None, Some}
use Rattle.std.proofs.Common.{ap, arith, refl, subst, sym, nat_eq, nat_le, ◌^◌}
use Rattle.std.proofs.lemmas.Bool.{eq-eqb, false≢true, le-leb, leb-true, ne_eqb}
use Rattle.std.proofs.lemmas.Int.{ints}
use Rattle.tsp_io.specs.{Clocks.IsOrigin, Speeds.reach, Speeds.speed_of, declared.counter.Counter.Counter, declared.origin.Origin.Origin}
use Rattle.tsp_io.specs.Origins.{CanRetune, can_retune, retuned, retuned_at}

abbrev of_parts : ℕ → ℤ → ℕ → ℤ → Origin
of_parts counter nanos tick rate = record { counter = counter; nanos = nanos; tick = tick; rate = rate }

-- the fact gives the test
can_true : (tick : ℕ) (rate : ℤ) (o : Origin) → CanRetune tick rate o → can_retune tick rate o ≡ true
can_true tick rate o h =
    let a : nat_le (nat_abs rate) 1000000 ≡ true = le-leb (nat_abs rate) 1000000 h.other.rate_small in
    let b : nat_le (nat_abs o.rate) 1000000 ≡ true = le-leb (nat_abs o.rate) 1000000 h.other.own_small in
    let c : nat_eq (speed_of rate) (speed_of o.rate) ≡ false = ne_eqb (speed_of rate) (speed_of o.rate) h.other.other in
    let d : nat_le o.tick tick ≡ true = le-leb o.tick tick h.near.later in
    let e : nat_le tick (2 ^ 51) ≡ true = le-leb tick (2 ^ 51) h.near.tick_small in
    let f : nat_le (nat_abs o.nanos) (2 ^ 61) ≡ true = le-leb (nat_abs o.nanos) (2 ^ 61) h.near.nanos_small in
    rw (a, b, c, d, e, f) refl

both : (a b : Bool) → (a && b) ≡ true → (a ≡ true) × (b ≡ true)
both true b e = (refl, e)
both false b e = absurd (false≢true e)

apart : (a b : ℕ) → not (nat_eq a b) ≡ true → a ≢ b
apart a b e same = false≢true (sym (ap not (eq-eqb a b same)) ∙ e)

-- and the test the fact
true_can : (tick : ℕ) (rate : ℤ) (o : Origin) → can_retune tick rate o ≡ true → CanRetune tick rate o
true_can tick rate o h =
    let a = both (nat_le (nat_abs rate) 1000000) _ h in
    let b = both (nat_le (nat_abs o.rate) 1000000) _ a.1 in
    let c = both (not (nat_eq (speed_of rate) (speed_of o.rate))) _ b.1 in
    let d = both (nat_le o.tick tick) _ c.1 in
    let e = both (nat_le tick (2 ^ 51)) _ d.1 in
    record {
      other = record {
        rate_small = leb-true (nat_abs rate) 1000000 a.0;
        own_small = leb-true (nat_abs o.rate) 1000000 b.0;
        other = apart (speed_of rate) (speed_of o.rate) c.0;
      };
      near = record {
        later = leb-true o.tick tick d.0;
        tick_small = leb-true tick (2 ^ 51) e.0;
        nanos_small = leb-true (nat_abs o.nanos) (2 ^ 61) e.1;
      };
    }

-- where the rate can be changed, and where it can't
pub retuned_can : (tick : ℕ) (rate : ℤ) (o : Origin) → CanRetune tick rate o → retuned tick rate o ≡ Some (retuned_at tick rate o)
retuned_can tick rate o h = let e : can_retune tick rate o ≡ true = can_true tick rate o h in
    ap (λ (b : Bool). if b then Some (retuned_at tick rate o) else None) e

pub retuned_cannot : (tick : ℕ) (rate : ℤ) (o : Origin) → ¬ CanRetune tick rate o → retuned tick rate o ≡ None
retuned_cannot tick rate o h = by (can_retune tick rate o) refl where
  by : (b : Bool) → can_retune tick rate o ≡ b → (if b then Some (retuned_at tick rate o) else None) ≡ None
  by true e = absurd (h (true_can tick rate o e))
  by false e = refl

-- by the parts of what it gives
pub retuned_is : (tick : ℕ) (rate nanos : ℤ) (o : Origin) (speed since : ℕ) → CanRetune tick rate o → speed ≡ speed_of o.rate →
    since ≡ reach speed (tick - o.tick) → nanos ≡ o.nanos +ℤ pos (1000 * since) →
    Some (record { counter = o.counter; nanos = nanos; tick = tick; rate = rate }) ≡ retuned tick rate o
retuned_is tick rate nanos o speed since can s r n =
    let e : nanos ≡ (retuned_at tick rate o).nanos = n ∙ ap (λ x. o.nanos +ℤ pos (1000 * x)) r ∙
    ap (λ x. o.nanos +ℤ pos (1000 * reach x (tick - o.tick))) s in
    ap (λ x. Some (of_parts o.counter x tick rate)) e ∙ sym (retuned_can tick rate o can)

-- what it gives
pub retuned_some : (tick : ℕ) (rate : ℤ) (b o : Origin) → retuned tick rate b ≡ Some o → o ≡ retuned_at tick rate b
retuned_some tick rate b o e = by (can_retune tick rate b) e where
  by : (k : Bool) → (if k then Some (retuned_at tick rate b) else None) ≡ Some o → o ≡ retuned_at tick rate b
  by true e = cc
  by false e = absurd (cc)

same_rate : (a b : ℤ) (speed : ℕ) → pos 1000000000 +ℤ a ≡ pos speed → pos 1000000000 +ℤ b ≡ pos speed → a ≡ b
same_rate a b speed e f = omega (arith, ints, e, f)

same_nanos : (a b : ℤ) (from : Option ℤ) → from ≡ Some a → from ≡ Some b → a ≡ b
same_nanos a b from e f = cc

-- a counter's ticks are counted from one place
pub same_origin : (counter : Counter) (start : Option ℕ) (base speed : ℕ) (a b : Origin) → IsOrigin counter start base speed a →
    IsOrigin counter start base speed b → a ≡ b
same_origin counter start base speed a b h k =
    let c : a.counter ≡ b.counter = h.counter_is ∙ sym k.counter_is in
    let n : a.nanos ≡ b.nanos = same_nanos a.nanos b.nanos _ h.nanos_are k.nanos_are in
    let t : a.tick ≡ b.tick = h.tick_is ∙ sym k.tick_is in
    let r : a.rate ≡ b.rate = same_rate a.rate b.rate speed h.rate_is k.rate_is in
    let e : record { counter = a.counter; nanos = a.nanos; tick = a.tick; rate = a.rate } ≡ record {
      counter = b.counter;
      nanos = b.nanos;
      tick = b.tick;
      rate = b.rate;
    } = rw (c, n, t, r) refl in
    e

-- whole microseconds stay whole
whole : (x : ℤ) (n s r : ℕ) → n ≡ s * 1000 + 1000 * r → x ≡ pos n → pos (nat_abs x / 1000 * 1000) ≡ x
whole x n s r sum e =
    let same : n / 1000 * 1000 ≡ n = omega (arith, sum) in
    subst (λ y. pos (nat_abs y / 1000 * 1000) ≡ y) (sym e) (ap pos same)

later : (x y : ℤ) (s m : ℕ) → pos (s * 1000) ≡ y → x ≡ y +ℤ pos m → x ≡ pos (s * 1000 + m)
later x y s m e f = omega (arith, ints, e, f)

some_is : (a b : ℤ) → Some a ≡ Some b → a ≡ b
some_is a b e = cc

-- after a change they are counted from what it gave
pub origin_again : (counter : Counter) (start : Option ℕ) (base speed tick counted : ℕ) (rate : ℤ) (b o : Origin) → IsOrigin counter start base speed b →
    retuned tick rate b ≡ Some o → pos counted ≡ pos 1000000000 +ℤ rate → IsOrigin counter (Some (nat_abs o.nanos / 1000)) tick counted o
origin_again counter None base speed tick counted rate b o h e r = let none : None ≡ Some b.nanos = h.nanos_are in absurd (cc)
origin_again counter (Some s) base speed tick counted rate b o h e r =
    let is : o ≡ retuned_at tick rate b = retuned_some tick rate b o e in
    let nanos : o.nanos ≡ (retuned_at tick rate b).nanos = ap (λ (x : Origin). x.nanos) is in
    let from : pos (s * 1000) ≡ b.nanos = some_is (pos (s * 1000)) b.nanos h.nanos_are in
    let at : o.nanos ≡ pos (s * 1000 + 1000 * _) = later o.nanos b.nanos s (1000 * _) from nanos in
    record {
      counter_is = ap (λ (x : Origin). x.counter) is ∙ h.counter_is;
      nanos_are = ap Some (whole o.nanos _ s _ refl at);
      tick_is = ap (λ (x : Origin). x.tick) is;
      rate_is = ap (λ (x : Origin). pos 1000000000 +ℤ x.rate) is ∙ sym r;
    }
