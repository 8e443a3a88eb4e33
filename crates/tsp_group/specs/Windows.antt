-- The windows of an ascending list, and the best of the largest ones.
use Rattle.std.specs.Prelude.{◌≡◌, ℕ, ◌+◌, ◌-◌, ◌<◌, ◌≤◌, ◌⊎◌, false, ℤ, pos, negsuc, ◌+ℤ◌, ◌-ℤ◌, ◌≤ℤ◌, ◌<ℤ◌, List, length, take, slice_index_or}
use Rattle.tsp_group.specs.{Groups.total, Groups.goes_before, Groups.no_group, declared.group.Group.Group, declared.window.Window.Window}

-- the group of the values from place i to before place j
abbrev pub window_of : List ℤ → ℕ → ℕ → Group
window_of xs i j = record {
  lo = slice_index_or xs i (pos 0);
  width = slice_index_or xs (j - 1) (pos 0) -ℤ slice_index_or xs i (pos 0);
  count = j - i;
  sum = total (take j xs) -ℤ total (take i xs);
}

-- the last of these values is at most the span above the first
abbrev pub Spans : ℕ → List ℤ → ℕ → ℕ → Type 0
Spans span xs i j = slice_index_or xs (j - 1) (pos 0) ≤ℤ (slice_index_or xs i (pos 0) +ℤ pos span)

-- of the windows within the span among the first k values none has more than m values, and best is the best group of those with m
pub record IsBest (span : ℕ) (xs : List ℤ) (m k : ℕ) (best : Group) : Type 0 where
  pub most : (i j : ℕ) → i < j → j ≤ k → Spans span xs i j → j ≤ i + m
  pub first : (i : ℕ) → 0 < m → i + m ≤ k → Spans span xs i (i + m) → goes_before (window_of xs i (i + m)) best ≡ false
  pub found : ((best ≡ no_group) × (m ≡ 0) × (k ≡ 0)) ⊎ ((i : ℕ) × (0 < m) × (i + m ≤ k) × Spans span xs i (i + m) × (best ≡ window_of xs i (i + m)))

-- what the value at place k does to a window that begins at place i: it still begins there, or one place later where that value is beyond the span
abbrev pub Moves : ℕ → List ℤ → ℕ → ℕ → ℕ → Type 0
Moves span xs i k next = ((next ≡ i) × (slice_index_or xs k (pos 0) ≤ℤ (slice_index_or xs i (pos 0) +ℤ pos span))) ⊎
    ((next ≡ i + 1) × ((slice_index_or xs i (pos 0) +ℤ pos span) <ℤ slice_index_or xs k (pos 0)))

-- a sum of at most 2 ^ 33 values that are averaged
pub record IsSmallSum (sum : ℤ) : Type 0 where
  pub low : negsuc 19342813113834066795298816 ≤ℤ sum
  pub high : sum ≤ℤ pos 19342813113834066795298816

-- a window of the list, with its first value and its sum
pub record IsWindow (values : List ℤ) (w : Window) : Type 0 where
  pub inside : w.end ≤ length values
  pub starts : w.first < length values
  pub some : 0 < w.end → w.first < w.end
  pub none : w.end ≡ 0 → w.first ≡ 0
  pub lo : w.lo ≡ slice_index_or values w.first (pos 0)
  pub sum : w.sum ≡ total (take w.end values) -ℤ total (take w.first values)
