-- Lemmas on the windows of an ascending list: the values from place i to before place j.
use Rattle.std.proofs.Common.{◌≡◌, ◌∙◌, refl, sym, ap, subst, ℕ, ◌+◌, ◌-◌, ◌<◌, ◌≤◌, ◌==◌, nat_lt, Bool, true, false, cond, ℤ, pos, ◌+ℤ◌, ◌≤ℤ◌, ◌<ℤ◌, List}
use Rattle.std.proofs.Common.{length, get_or, arith, ◌⊎◌, inl, inr}
use Rattle.std.proofs.lemmas.{Bool.cases_lt, Bool.Decides.nat_tests, Int.ints}
use Rattle.tsp_group.specs.{Groups.goes_before, Groups.better, Values.IsAscending, Windows.window_of, Windows.Spans, Windows.IsBest}
use Rattle.tsp_group.specs.declared.group.Group.{Group}
use Rattle.tsp_group.proofs.Precedence.{goes_before_order, goes_before_same, better_left, better_right, better_stays, better_takes}

count_first : (a b : ℕ) (p : Bool) → b < a → cond (a == b) p (nat_lt b a) ≡ true
count_first a b p h = grind (arith, nat_tests)

count_behind : (a b : ℕ) (p : Bool) → a < b → cond (a == b) p (nat_lt b a) ≡ false
count_behind a b p h = grind (arith, nat_tests)

-- a group of more members goes before
more_first : (g h : Group) → h.count < g.count → goes_before g h ≡ true
unfolding goes_before
more_first g h k = count_first g.count h.count _ k

pub fewer_behind : (g h : Group) → g.count < h.count → goes_before g h ≡ false
unfolding goes_before
fewer_behind g h k = count_behind g.count h.count _ k

pub best_count : (span : ℕ) (xs : List ℤ) (m k : ℕ) (best : Group) → IsBest span xs m k best → best.count ≡ m
best_count span xs m k best h = elim h.found [
  | inl w ↦ ap (λ (g : Group). g.count) w.0 ∙ sym w.1
  | inr w ↦ (let size : w.0 + m - w.0 ≡ m = omega arith in ap (λ (g : Group). g.count) w.4 ∙ size)
]

-- a window without its last value
shorter : (span : ℕ) (xs : List ℤ) (i k : ℕ) → IsAscending xs → i < k → k < length xs → Spans span xs i (k + 1) → Spans span xs i k
shorter span xs i k up lt n h =
    let a : get_or xs (k - 1) (pos 0) ≤ℤ get_or xs k (pos 0) = up (k - 1) k (omega arith) n in
    let e : get_or xs (k + 1 - 1) (pos 0) ≡ get_or xs k (pos 0) = ap (λ j. get_or xs j (pos 0)) (omega arith) in
    omega (arith, ints, a, e, h)

-- a window that begins later
later : (span : ℕ) (xs : List ℤ) (i j k : ℕ) → IsAscending xs → i ≤ j → j < length xs → Spans span xs i k → Spans span xs j k
later span xs i j k up le n h = let a : get_or xs i (pos 0) ≤ℤ get_or xs j (pos 0) = up i j le n in omega (arith, ints, a, h)

most_last : (span : ℕ) (xs : List ℤ) (m k : ℕ) (best : Group) → IsAscending xs → k < length xs → IsBest span xs m k best → (a : ℕ) → Spans span xs a (k + 1) →
    (a < k) ⊎ (k ≤ a) → k + 1 ≤ a + m + 1
most_last span xs m k best up n h a s (inl lt) = let w = h.most a k lt (omega arith) (shorter span xs a k up lt n s) in omega arith
most_last span xs m k best up n h a s (inr le) = omega arith

most_grown : (span : ℕ) (xs : List ℤ) (m k : ℕ) (best : Group) → IsAscending xs → k < length xs → IsBest span xs m k best → (a b : ℕ) → a < b → b ≤ k + 1 →
    Spans span xs a b → (b < k + 1) ⊎ (k + 1 ≤ b) → b ≤ a + (m + 1)
most_grown span xs m k best up n h a b lt bound s (inl less) = let w = h.most a b lt (omega arith) s in omega arith
most_grown span xs m k best up n h a b lt bound s (inr more) =
    let e : b ≡ k + 1 = omega arith in
    let t : Spans span xs a (k + 1) = subst (λ j. Spans span xs a j) e s in
    let w = most_last span xs m k best up n h a t (cases_lt a k) in
    omega arith

only_grown : (span : ℕ) (xs : List ℤ) (m k : ℕ) (best : Group) → IsAscending xs → k < length xs → m ≤ k → IsBest span xs m k best → (a : ℕ) →
    a + (m + 1) ≤ k + 1 → Spans span xs a (a + (m + 1)) → (a + (m + 1) < k + 1) ⊎ (k + 1 ≤ a + (m + 1)) → a ≡ k - m
only_grown span xs m k best up n le h a bound s (inl less) = absurd (let w = h.most a (a + (m + 1)) (omega arith) (omega arith) s in omega arith)
only_grown span xs m k best up n le h a bound s (inr more) = omega arith

-- the window grows by one more value
pub best_grows : (span : ℕ) (xs : List ℤ) (m k i : ℕ) (best : Group) → IsAscending xs → k < length xs → i + m ≡ k → IsBest span xs m k best →
    Spans span xs i (k + 1) → IsBest span xs (m + 1) (k + 1) (better best (window_of xs i (k + 1)))
best_grows span xs m k i best up n at h s =
    let count = best_count span xs m k best h in
    let size : (window_of xs i (k + 1)).count ≡ m + 1 = omega arith in
    let takes = better_takes best (window_of xs i (k + 1)) (more_first (window_of xs i (k + 1)) best (omega (arith, count, size))) in
    let end : k + 1 ≡ i + (m + 1) = omega arith in
    rw takes (record {
      most = λ a b lt bound t. most_grown span xs m k best up n h a b lt bound t (cases_lt b (k + 1));
      first = λ a some bound t.
          let e : a ≡ i = only_grown span xs m k best up n (omega arith) h a bound t (cases_lt (a + (m + 1)) (k + 1)) ∙ (omega arith) in
          rw (e, end) (goes_before_same (window_of xs i (i + (m + 1))));
      found = inr (i, omega arith, omega arith, subst (λ j. Spans span xs i j) end s, ap (window_of xs i) end);
    })

most_kept : (span : ℕ) (xs : List ℤ) (m k i : ℕ) (best : Group) → IsAscending xs → k < length xs → i + m ≡ k → IsBest span xs m k best →
    (get_or xs i (pos 0) +ℤ pos span) <ℤ get_or xs k (pos 0) → (a b : ℕ) → a < b → b ≤ k + 1 → Spans span xs a b → (b < k + 1) ⊎ (k + 1 ≤ b) → (i < a) ⊎
    (a ≤ i) → b ≤ a + m
most_kept span xs m k i best up n at h out a b lt bound s (inl less) c = h.most a b lt (omega arith) s
most_kept span xs m k i best up n at h out a b lt bound s (inr more) (inl far) = omega arith
most_kept span xs m k i best up n at h out a b lt bound s (inr more) (inr near) =
    let e : b - 1 ≡ k = omega arith in
    let t : get_or xs k (pos 0) ≤ℤ (get_or xs a (pos 0) +ℤ pos span) = subst (λ j. get_or xs j (pos 0) ≤ℤ (get_or xs a (pos 0) +ℤ pos span)) e s in
    let low : get_or xs a (pos 0) ≤ℤ get_or xs i (pos 0) = up a i near (omega arith) in
    absurd (omega (arith, ints, t, low, out))

first_by : (span : ℕ) (xs : List ℤ) (m k : ℕ) (best next : Group) → IsBest span xs m k best → goes_before best next ≡ false →
    (Spans span xs (k + 1 - m) (k + 1) → goes_before (window_of xs (k + 1 - m) (k + 1)) next ≡ false) → (a : ℕ) → 0 < m → a + m ≤ k + 1 →
    Spans span xs a (a + m) → (a + m < k + 1) ⊎ (k + 1 ≤ a + m) → goes_before (window_of xs a (a + m)) next ≡ false
first_by span xs m k best next h behind new a some bound s (inl less) = goes_before_order.chain (window_of xs a (a + m)) best next
    (h.first a some (omega arith) s) behind
first_by span xs m k best next h behind new a some bound s (inr more) =
    let e : a + m ≡ k + 1 = omega arith in
    let f : a ≡ k + 1 - m = omega arith in
    let t : Spans span xs (k + 1 - m) (k + 1) = subst (λ j. Spans span xs j (k + 1)) f (subst (λ j. Spans span xs a j) e s) in
    rw (e, f) (new t)

found_kept : (span : ℕ) (xs : List ℤ) (m k : ℕ) (best : Group) → 0 < m → IsBest span xs m k best →
    ((i : ℕ) × (0 < m) × (i + m ≤ k + 1) × Spans span xs i (i + m) × (best ≡ window_of xs i (i + m)))
found_kept span xs m k best some h = elim h.found [
  | inl w ↦ absurd (omega (arith, w.1, some))
  | inr w ↦ (w.0, w.1, omega (arith, w.2), w.3, w.4)
]

not_spanned : (span : ℕ) (xs : List ℤ) (m k i : ℕ) → i + m ≡ k → (get_or xs (i + 1) (pos 0) +ℤ pos span) <ℤ get_or xs k (pos 0) →
    Spans span xs (k + 1 - m) (k + 1) → ⊥
not_spanned span xs m k i at beyond u =
    let e : k + 1 - m ≡ i + 1 = omega arith in
    let f : k + 1 - 1 ≡ k = omega arith in
    let t : get_or xs k (pos 0) ≤ℤ (get_or xs (i + 1) (pos 0) +ℤ pos span) = rw (e, f) at u in
    omega (arith, ints, t, beyond)

better_found : (span : ℕ) (xs : List ℤ) (m k i : ℕ) (best : Group) → i + m ≡ k → 0 < m → Spans span xs (i + 1) (k + 1) →
    ((a : ℕ) × (0 < m) × (a + m ≤ k + 1) × Spans span xs a (a + m) × (best ≡ window_of xs a (a + m))) → (t : Bool) →
    goes_before (window_of xs (i + 1) (k + 1)) best ≡ t → ((a : ℕ) × (0 < m) × (a + m ≤ k + 1) × Spans span xs a (a + m) ×
    (better best (window_of xs (i + 1) (k + 1)) ≡ window_of xs a (a + m)))
better_found span xs m k i best at some s w true e =
    let end : k + 1 ≡ i + 1 + m = omega arith in
    (i + 1, some, omega arith, subst (λ j. Spans span xs (i + 1) j) end s, better_takes best (window_of xs (i + 1) (k + 1)) e ∙ ap (window_of xs (i + 1)) end)
better_found span xs m k i best at some s w false e = (w.0, w.1, w.2, w.3, better_stays best (window_of xs (i + 1) (k + 1)) e ∙ w.4)

-- the window moves on, and doesn't lie within the span
pub best_passes : (span : ℕ) (xs : List ℤ) (m k i : ℕ) (best : Group) → IsAscending xs → k < length xs → i + m ≡ k → 0 < m → IsBest span xs m k best →
    (get_or xs i (pos 0) +ℤ pos span) <ℤ get_or xs k (pos 0) → (get_or xs (i + 1) (pos 0) +ℤ pos span) <ℤ get_or xs k (pos 0) → IsBest span xs m (k + 1) best
best_passes span xs m k i best up n at some h out beyond =
    record {
      most = λ a b lt bound t. most_kept span xs m k i best up n at h out a b lt bound t (cases_lt b (k + 1)) (cases_lt i a);
      first = λ a s bound t. first_by span xs m k best best h (goes_before_same best) (λ u. absurd (not_spanned span xs m k i at beyond u)) a s bound t
          (cases_lt (a + m) (k + 1));
      found = inr (found_kept span xs m k best some h);
    }

-- the window moves on, and lies within the span
pub best_moves : (span : ℕ) (xs : List ℤ) (m k i : ℕ) (best : Group) → IsAscending xs → k < length xs → i + m ≡ k → 0 < m → IsBest span xs m k best →
    (get_or xs i (pos 0) +ℤ pos span) <ℤ get_or xs k (pos 0) → Spans span xs (i + 1) (k + 1) →
    IsBest span xs m (k + 1) (better best (window_of xs (i + 1) (k + 1)))
best_moves span xs m k i best up n at some h out s =
    let w : Group = window_of xs (i + 1) (k + 1) in
    record {
      most = λ a b lt bound t. most_kept span xs m k i best up n at h out a b lt bound t (cases_lt b (k + 1)) (cases_lt i a);
      first = λ a s bound t. first_by span xs m k best (better best (window_of xs (i + 1) (k + 1))) h (better_left best (window_of xs (i + 1) (k + 1)))
          (λ u. let e : k + 1 - m ≡ i + 1 = omega arith in rw e (better_right best (window_of xs (i + 1) (k + 1)))) a s bound t (cases_lt (a + m) (k + 1));
      found = inr (better_found span xs m k i best at some s (found_kept span xs m k best some h) (goes_before (window_of xs (i + 1) (k + 1)) best) refl);
    }
