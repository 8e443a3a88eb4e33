-- How a call leaves a count of faults.
use Rattle.std.specs.Prelude.{◌≡◌, ℕ, ◌≤◌}
use Rattle.tsp_io.specs.Counts.{Rose}

-- a count never falls; this fault comes only if the count rose; where this fault doesn't come, the count is unchanged
pub record Counts (before now : ℕ) (fault : Type 0) : Type 0 where
  pub later : before ≤ now
  pub cause : fault → Rose before now
  pub still : ¬ fault → now ≡ before
