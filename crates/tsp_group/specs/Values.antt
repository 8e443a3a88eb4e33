-- The list of differences that a group is taken from.
use Rattle.std.specs.Prelude.{ℕ, ◌≤◌, ◌<◌, ◌^◌, ℤ, pos, negsuc, ◌≤ℤ◌, List, length, slice_index_or}
use Rattle.std.specs.List.{All}

-- the list, for how many values it holds memory, and how often one was looked at
pub record ValueList : Type 0 where
  pub items : List ℤ
  pub room : ℕ
  pub looks : ℕ

-- a difference that is averaged: less than 2 ^ 30 seconds
pub record IsNear (x : ℤ) : Type 0 where
  pub low : negsuc 1073741823999998 ≤ℤ x
  pub high : x ≤ℤ pos 1073741823999999

-- no value comes before a lesser one
abbrev pub IsAscending : List ℤ → Type 0
IsAscending xs = (i j : ℕ) → i ≤ j → j < length xs → slice_index_or xs i (pos 0) ≤ℤ slice_index_or xs j (pos 0)

-- each value is one that is averaged, and there are no more than the room
pub record IsValues (items : List ℤ) (room : ℕ) : Type 0 where
  pub near : All IsNear items
  pub short : length items ≤ room
  pub small : room < 2 ^ 32
