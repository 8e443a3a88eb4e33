-- Lemmas on one step of the window.
use Rattle.std.proofs.Common.{◌≡◌, refl, sym, ap, subst, ℕ, ◌+◌, ◌-◌, ◌<◌, ◌≤◌, ◌^◌, ℤ, pos, ◌+ℤ◌, ◌-ℤ◌, ◌≤ℤ◌, ◌<ℤ◌, List, length, get_or, arith, ◌⊎◌, inl, inr}
use Rattle.std.{proofs.lemmas.Bool.cases_lt, proofs.lemmas.Int.ints, proofs.lemmas.List.Elements.All-get_or, specs.List.All}
use Rattle.tsp_group.specs.{Groups.better, Values.IsNear, Values.IsAscending, declared.group.Group.Group, declared.window.Window.Window}
use Rattle.tsp_group.specs.Windows.{window_of, IsSmallSum, IsWindow, IsBest, Moves, Spans}
use Rattle.tsp_group.proofs.{Sums.total_more, Sums.small_total, Windows.best_grows, Windows.best_moves, Windows.best_passes}

pub window_near : (xs : List ℤ) (w : Window) → All IsNear xs → IsWindow xs w → IsNear w.lo
window_near xs w near h = rw h.lo (All-get_or IsNear xs w.first (pos 0) h.starts near)

pub window_small : (xs : List ℤ) (w : Window) → All IsNear xs → length xs < 2 ^ 32 → IsWindow xs w → IsSmallSum w.sum
window_small xs w near small h = rw h.sum (small_total xs w.first w.end near small)

first_inside : (xs : List ℤ) (w : Window) → IsWindow xs w → (0 < w.end) ⊎ (w.end ≤ 0) → w.first < w.end + 1
first_inside xs w h (inl lt) = let a = h.some lt in omega arith
first_inside xs w h (inr le) = let a = h.none (omega arith) in omega arith

-- the value at its end is taken in
pub window_more : (xs : List ℤ) (w : Window) (v : ℤ) → IsWindow xs w → w.end < length xs → v ≡ get_or xs w.end (pos 0) →
    IsWindow xs (record w { end = w.end + 1; sum = w.sum +ℤ v })
window_more xs w v h n e = record {
  inside = omega arith;
  starts = h.starts;
  some = λ _. first_inside xs w h (cases_lt 0 w.end);
  none = λ z. absurd (omega (arith, z));
  lo = h.lo;
  sum = let s = h.sum in let m = total_more xs w.end n in omega (arith, ints, s, m, e);
}

-- the first value goes
pub window_less : (xs : List ℤ) (w : Window) → IsWindow xs w → w.first + 1 < w.end →
    IsWindow xs (record w { first = w.first + 1; lo = get_or xs (w.first + 1) (pos 0); sum = w.sum -ℤ w.lo })
window_less xs w h lt = record {
  inside = h.inside;
  starts = let n = h.inside in omega arith;
  some = λ _. lt;
  none = λ z. absurd (omega (arith, z));
  lo = refl;
  sum = let s = h.sum in let l = h.lo in let m = total_more xs w.first h.starts in omega (arith, ints, s, m, l);
}

-- a value beyond the span isn't the first
pub beyond_first : (span : ℕ) (xs : List ℤ) (w : Window) (v : ℤ) → IsWindow xs w → v ≡ get_or xs w.end (pos 0) → (w.lo +ℤ pos span) <ℤ v → (0 < w.end) ⊎
    (w.end ≤ 0) → w.first + 1 < w.end + 1
beyond_first span xs w v h e out (inl lt) = let a = h.some lt in omega arith
beyond_first span xs w v h e out (inr le) =
    let l = h.lo in
    let same : w.first ≡ w.end = let a = h.none (omega arith) in omega arith in
    let f : get_or xs w.end (pos 0) ≡ get_or xs w.first (pos 0) = ap (λ i. get_or xs i (pos 0)) (sym same) in
    absurd (omega (arith, ints, l, e, f, out))

last_is : (k : ℕ) → k + 1 - 1 ≡ k
last_is k = omega arith

not_first : (span : ℕ) (xs : List ℤ) (i k : ℕ) → i ≤ k → (get_or xs i (pos 0) +ℤ pos span) <ℤ get_or xs k (pos 0) → (i < k) ⊎ (k ≤ i) → 0 < k - i
not_first span xs i k le out (inl lt) = omega arith
not_first span xs i k le out (inr ge) =
    let e : get_or xs k (pos 0) ≡ get_or xs i (pos 0) = ap (λ j. get_or xs j (pos 0)) (omega arith) in
    absurd (omega (arith, ints, e, out))

-- the window within the span is tried
pub step_tries : (span : ℕ) (xs : List ℤ) (i k next : ℕ) (best : Group) → IsAscending xs → k < length xs → i ≤ k → IsBest span xs (k - i) k best →
    Moves span xs i k next → get_or xs k (pos 0) ≤ℤ (get_or xs next (pos 0) +ℤ pos span) →
    IsBest span xs (k + 1 - next) (k + 1) (better best (window_of xs next (k + 1)))
step_tries span xs i k next best up n le h (inl m) within =
    let s : Spans span xs i (k + 1) = rw (last_is k) m.1 in
    let size : k + 1 - i ≡ k - i + 1 = omega arith in
    rw m.0 (subst (λ n. IsBest span xs n (k + 1) (better best (window_of xs i (k + 1)))) (sym size) (best_grows span xs (k - i) k i best up n (omega arith) h
    s))
step_tries span xs i k next best up n le h (inr m) within =
    let t : get_or xs k (pos 0) ≤ℤ (get_or xs (i + 1) (pos 0) +ℤ pos span) = rw m.0 at within in
    let s : Spans span xs (i + 1) (k + 1) = rw (last_is k) t in
    let some : 0 < k - i = not_first span xs i k le m.1 (cases_lt i k) in
    let size : k + 1 - (i + 1) ≡ k - i = omega arith in
    rw m.0 (subst (λ n. IsBest span xs n (k + 1) (better best (window_of xs (i + 1) (k + 1)))) (sym size)
    (best_moves span xs (k - i) k i best up n (omega arith) some h m.1 s))

-- the window beyond the span is passed over
pub step_passes : (span : ℕ) (xs : List ℤ) (i k next : ℕ) (best : Group) → IsAscending xs → k < length xs → i ≤ k → IsBest span xs (k - i) k best →
    Moves span xs i k next → (get_or xs next (pos 0) +ℤ pos span) <ℤ get_or xs k (pos 0) → IsBest span xs (k + 1 - next) (k + 1) best
step_passes span xs i k next best up n le h (inl m) out = absurd (let t = rw m.0 at out in omega (arith, ints, t, m.1))
step_passes span xs i k next best up n le h (inr m) out =
    let t = rw m.0 at out in
    let some : 0 < k - i = not_first span xs i k le m.1 (cases_lt i k) in
    let size : k + 1 - (i + 1) ≡ k - i = omega arith in
    rw m.0 (subst (λ n. IsBest span xs n (k + 1) best) (sym size) (best_passes span xs (k - i) k i best up n (omega arith) some h m.1 t))

-- the group of a window
pub group_is_window : (xs : List ℤ) (w : Window) (v : ℤ) (k : ℕ) → IsWindow xs w → w.end ≡ k + 1 → v ≡ get_or xs k (pos 0) →
    (let g : Group = record { lo = w.lo; width = v -ℤ w.lo; count = w.end - w.first; sum = w.sum } in g) ≡ window_of xs w.first (k + 1)
group_is_window xs w v k h e f = rw (h.sum, h.lo, e, f, last_is k) refl
