-- Deadlines at the places of a list; a place may have none.
use Rattle.std.specs.Prelude.{◌≡◌, ℕ, ◌≤◌, ◌<◌, nat_le, Bool, true, false, List, length, Option, None, Some, slice_index_or}

-- whether there is a deadline and the tick has come to it
abbrev pub is_due : ℕ → Option ℕ → Bool
is_due tick None = false
is_due tick (Some at) = nat_le at tick

-- the deadline at a place; none past the end
abbrev pub deadline_at : List (Option ℕ) → ℕ → Option ℕ
deadline_at ds i = slice_index_or ds i None

-- i is the least place from `from` on whose deadline has come
pub record IsFirstDueAt (from tick : ℕ) (ds : List (Option ℕ)) (i : ℕ) : Type 0 where
  pub after : from ≤ i
  pub inside : i < length ds
  pub due : is_due tick (deadline_at ds i) ≡ true
  pub first : (j : ℕ) → from ≤ j → j < i → is_due tick (deadline_at ds j) ≡ false

-- the least place from `from` on whose deadline has come, if there is one
abbrev pub IsFirstDue : ℕ → ℕ → List (Option ℕ) → Option ℕ → Type 0
IsFirstDue from tick ds None = (i : ℕ) → from ≤ i → is_due tick (deadline_at ds i) ≡ false
IsFirstDue from tick ds (Some i) = IsFirstDueAt from tick ds i

-- t is the deadline of a place, and no place has an earlier one
pub record IsLeastDeadline (ds : List (Option ℕ)) (t : ℕ) : Type 0 where
  pub armed : (i : ℕ) × (i < length ds) × (deadline_at ds i ≡ Some t)
  pub first : (i u : ℕ) → deadline_at ds i ≡ Some u → t ≤ u

-- the least deadline, if there is one
abbrev pub IsLeast : List (Option ℕ) → Option ℕ → Type 0
IsLeast ds None = (i : ℕ) → deadline_at ds i ≡ None
IsLeast ds (Some t) = IsLeastDeadline ds t
