-- The best window of a whole list is its largest group.
use Rattle.std.proofs.Common.{◌≡◌, ◌∙◌, sym, ap, subst, ℕ, zero, suc, ◌+◌, ◌-◌, ◌<◌, ◌≤◌, false, ℤ, pos, ◌+ℤ◌, ◌≤ℤ◌, ◌<ℤ◌, List, length, get_or, arith, ◌⊎◌}
use Rattle.std.proofs.Common.{inl, inr}
use Rattle.std.proofs.lemmas.{Bool.cases_lt, Int.ints, Int.by_lt_z, List.Elements.Contains-get_or, List.Elements.at_from_Contains}
use Rattle.std.specs.List.{Contains}
use Rattle.tsp_group.specs.{Groups.group_from, Groups.goes_before, Groups.IsLargest, Values.IsAscending, declared.group.Group.Group}
use Rattle.tsp_group.specs.Windows.{window_of, Spans, IsBest}
use Rattle.tsp_group.proofs.{Members.group_from_stretch, Windows.best_count, Windows.fewer_behind}

cases_ℤ : (x y : ℤ) → (x <ℤ y) ⊎ (y ≤ℤ x)
cases_ℤ x y = by_lt_z {P = (x <ℤ y) ⊎ (y ≤ℤ x)} x y (λ h. inl h) (λ h. inr h)

-- the first place of a value
abbrev FirstPlace : List ℤ → ℤ → ℕ → Type 0
FirstPlace xs lo i = (i < length xs) × (get_or xs i (pos 0) ≡ lo) × (0 < i → get_or xs (i - 1) (pos 0) <ℤ get_or xs i (pos 0))

first_place_by : (xs : List ℤ) (lo : ℤ) (k : ℕ) → IsAscending xs → k + 1 < length xs → get_or xs (k + 1) (pos 0) ≡ lo →
    ((get_or xs k (pos 0) ≡ lo → (i : ℕ) × FirstPlace xs lo i)) → (get_or xs k (pos 0) <ℤ lo) ⊎ (lo ≤ℤ get_or xs k (pos 0)) → (i : ℕ) × FirstPlace xs lo i
first_place_by xs lo k up n e rest (inl less) =
    let f : k + 1 - 1 ≡ k = omega arith in
    (k + 1, (n, e, λ _. rw (f, e) less))
first_place_by xs lo k up n e rest (inr more) =
    let a : get_or xs k (pos 0) ≤ℤ get_or xs (k + 1) (pos 0) = up k (k + 1) (omega arith) n in
    rest (omega (arith, ints, a, e, more))

first_place : (xs : List ℤ) (lo : ℤ) (k : ℕ) → IsAscending xs → k < length xs → get_or xs k (pos 0) ≡ lo → (i : ℕ) × FirstPlace xs lo i
first_place xs lo zero up n e = (0, (n, e, λ h. absurd (omega (arith, h))))
first_place xs lo (suc k) up n e =
    let f : suc k ≡ k + 1 = omega arith in
    first_place_by xs lo k up (omega arith) (subst (λ j. get_or xs j (pos 0) ≡ lo) f e) (λ h. first_place xs lo k up (omega arith) h)
    (cases_ℤ (get_or xs k (pos 0)) lo)

-- the place where the values leave the span of the one at place i
abbrev LastPlace : ℕ → List ℤ → ℕ → ℕ → Type 0
LastPlace span xs i j = (i < j) × (j ≤ length xs) × Spans span xs i j × (j < length xs → (get_or xs i (pos 0) +ℤ pos span) <ℤ get_or xs j (pos 0))

last_place_by : (span : ℕ) (xs : List ℤ) (i j : ℕ) → i < j → j < length xs → Spans span xs i j → (Spans span xs i (j + 1) → (l : ℕ) × LastPlace span xs i l) →
    ((get_or xs i (pos 0) +ℤ pos span) <ℤ get_or xs j (pos 0)) ⊎ (get_or xs j (pos 0) ≤ℤ (get_or xs i (pos 0) +ℤ pos span)) → (l : ℕ) × LastPlace span xs i l
last_place_by span xs i j lt n s rest (inl out) = (j, (lt, omega arith, s, λ _. out))
last_place_by span xs i j lt n s rest (inr within) =
    let f : j ≡ j + 1 - 1 = omega arith in
    rest (subst (λ l. get_or xs l (pos 0) ≤ℤ (get_or xs i (pos 0) +ℤ pos span)) f within)

last_place : (span : ℕ) (xs : List ℤ) (i j fuel : ℕ) → i < j → length xs ≡ j + fuel → Spans span xs i j → (l : ℕ) × LastPlace span xs i l
last_place span xs i j zero lt e s = (j, (lt, omega arith, s, λ h. absurd (omega (arith, h, e))))
last_place span xs i j (suc fuel) lt e s = last_place_by span xs i j lt (omega arith) s (λ t. last_place span xs i (j + 1) fuel (omega arith) (omega arith) t)
    (cases_ℤ (get_or xs i (pos 0) +ℤ pos span) (get_or xs j (pos 0)))

own_span : (span : ℕ) (xs : List ℤ) (i : ℕ) → Spans span xs i (i + 1)
own_span span xs i = let f : i + 1 - 1 ≡ i = omega arith in rw f (omega (arith, ints))

-- the group of a value is a window
abbrev IsWindowOf : ℕ → List ℤ → ℤ → ℕ → ℕ → Type 0
IsWindowOf span xs lo i j = (i < j) × (j ≤ length xs) × Spans span xs i j × (group_from span xs lo ≡ window_of xs i j)

group_window : (span : ℕ) (xs : List ℤ) (lo : ℤ) → IsAscending xs → Contains xs lo → (i : ℕ) × (j : ℕ) × IsWindowOf span xs lo i j
group_window span xs lo up c =
    let k = at_from_Contains xs lo c in
    let f = first_place xs lo k.0 up k.1 (k.2 (pos 0)) in
    let l = last_place span xs f.0 (f.0 + 1) (length xs - (f.0 + 1)) (omega arith) (omega (arith, f.1.0)) (own_span span xs f.0) in
    (f.0, l.0, (l.1.0, l.1.1, l.1.2, ap (group_from span xs) (sym f.1.1) ∙ group_from_stretch span xs f.0 l.0 up l.1.0 l.1.1 l.1.2 l.1.3 f.1.2))

fresh_by : (span : ℕ) (xs : List ℤ) (m : ℕ) (best : Group) (b : ℕ) → IsBest span xs m (length xs) best → 0 < b → b + m ≤ length xs → 0 < m →
    Spans span xs b (b + m) → (get_or xs (b - 1) (pos 0) <ℤ get_or xs b (pos 0)) ⊎ (get_or xs b (pos 0) ≤ℤ get_or xs (b - 1) (pos 0)) →
    get_or xs (b - 1) (pos 0) <ℤ get_or xs b (pos 0)
fresh_by span xs m best b h pos_b bound some s (inl less) = less
fresh_by span xs m best b h pos_b bound some s (inr same) =
    let t : Spans span xs (b - 1) (b + m) = omega (arith, ints, s, same) in
    let w = h.most (b - 1) (b + m) (omega arith) bound t in
    absurd (omega arith)

beyond_by : (span : ℕ) (xs : List ℤ) (m : ℕ) (best : Group) (b : ℕ) → IsBest span xs m (length xs) best → b + m < length xs → 0 < m →
    ((get_or xs b (pos 0) +ℤ pos span) <ℤ get_or xs (b + m) (pos 0)) ⊎ (get_or xs (b + m) (pos 0) ≤ℤ (get_or xs b (pos 0) +ℤ pos span)) →
    (get_or xs b (pos 0) +ℤ pos span) <ℤ get_or xs (b + m) (pos 0)
beyond_by span xs m best b h n some (inl out) = out
beyond_by span xs m best b h n some (inr within) =
    let f : b + m ≡ b + m + 1 - 1 = omega arith in
    let t : Spans span xs b (b + m + 1) = subst (λ l. get_or xs l (pos 0) ≤ℤ (get_or xs b (pos 0) +ℤ pos span)) f within in
    let w = h.most b (b + m + 1) (omega arith) (omega arith) t in
    absurd (omega arith)

best_whole : (span : ℕ) (xs : List ℤ) (m : ℕ) (best : Group) (b : ℕ) → IsAscending xs → IsBest span xs m (length xs) best → 0 < m → b + m ≤ length xs →
    Spans span xs b (b + m) → window_of xs b (b + m) ≡ group_from span xs (get_or xs b (pos 0))
best_whole span xs m best b up h some bound s =
    sym (group_from_stretch span xs b (b + m) up (omega arith) bound s
    (λ n. beyond_by span xs m best b h n some (cases_ℤ (get_or xs b (pos 0) +ℤ pos span) (get_or xs (b + m) (pos 0))))
    (λ p. fresh_by span xs m best b h p bound some s (cases_ℤ (get_or xs (b - 1) (pos 0)) (get_or xs b (pos 0)))))

none_before : (span : ℕ) (xs : List ℤ) (m : ℕ) (best : Group) (i j : ℕ) → IsBest span xs m (length xs) best → 0 < m → i < j → j ≤ length xs →
    Spans span xs i j → (j < i + m) ⊎ (i + m ≤ j) → goes_before (window_of xs i j) best ≡ false
none_before span xs m best i j h some lt bound s (inl less) = fewer_behind (window_of xs i j) best (let c = best_count span xs m (length xs) best h in
    omega (arith, c, less))
none_before span xs m best i j h some lt bound s (inr more) =
    let w = h.most i j lt bound s in
    let e : j ≡ i + m = omega arith in
    rw e (h.first i some (omega arith) (subst (λ l. Spans span xs i l) e s))

best_largest_at : (span : ℕ) (xs : List ℤ) (m : ℕ) (best : Group) → IsAscending xs → IsBest span xs m (length xs) best → (b : ℕ) → 0 < m → b + m ≤ length xs →
    Spans span xs b (b + m) → best ≡ window_of xs b (b + m) → IsLargest span xs best
best_largest_at span xs m best up h b some bound s e =
    let whole : best ≡ group_from span xs (get_or xs b (pos 0)) = e ∙ best_whole span xs m best b up h some bound s in
    let lo : best.lo ≡ get_or xs b (pos 0) = ap (λ (g : Group). g.lo) e in
    record {
      from = rw lo (Contains-get_or xs b (pos 0) (omega arith));
      whole = whole ∙ ap (group_from span xs) (sym lo);
      first = λ x c.
          let w = group_window span xs x up c in
          rw w.2.3 (none_before span xs m best w.0 w.1 h some w.2.0 w.2.1 w.2.2 (cases_lt w.1 (w.0 + m)));
    }

pub best_IsLargest : (span : ℕ) (xs : List ℤ) (m : ℕ) (best : Group) → IsAscending xs → 0 < length xs → IsBest span xs m (length xs) best →
    IsLargest span xs best
best_IsLargest span xs m best up some h = elim h.found [
  | inl w ↦ absurd (omega (arith, w.2, some))
  | inr w ↦ best_largest_at span xs m best up h w.0 w.1 w.2 w.3 w.4
]
