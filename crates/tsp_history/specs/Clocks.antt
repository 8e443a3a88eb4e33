-- What is known of a node's clock.
use Rattle.std.specs.Prelude.{◌≡◌, ℕ, ◌*◌, ◌^◌, ℤ, pos, neg_ℤ, ◌≤ℤ◌, List}
use Rattle.tsp_base.specs.Words.{Line, of, dids, wall, boot_tick, moved}
use Rattle.tsp_history.specs.declared.clocks.Clock.{Clock}

-- no greater in magnitude than a sum of this many signed 64-bit amounts can be
abbrev pub IsSumOf : ℕ → ℤ → Type 0
IsSumOf count z = (neg_ℤ (pos (count * 2 ^ 63)) ≤ℤ z) × (z ≤ℤ pos (count * 2 ^ 63))

-- a clock's value: far less than 128 bits hold
abbrev pub IsSmall : ℤ → Type 0
IsSmall z = (neg_ℤ (pos (2 ^ 100)) ≤ℤ z) × (z ≤ℤ pos (2 ^ 100))

-- the difference of two such values
abbrev pub IsTrip : ℤ → Type 0
IsTrip z = (neg_ℤ (pos (2 ^ 101)) ≤ℤ z) × (z ≤ℤ pos (2 ^ 101))

-- the wall clock and the tick of the boot, and the amounts of the corrections since, are those of node n
pub record KeepsClock (n : ℕ) (before : List Line) (c : Clock) : Type 0 where
  pub wall_is : c.wall ≡ wall (dids (of n before))
  pub boot_is : c.boot_tick ≡ boot_tick (dids (of n before))
  pub moved_is : c.moved ≡ moved (dids (of n before))
