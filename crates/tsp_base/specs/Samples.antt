-- Samples of another clock.
use Rattle.std.specs.Prelude.{◌/◌, ℤ, pos, negsuc, neg_ℤ, ◌-ℤ◌}

-- half of a number, rounded down
abbrev pub half_down : ℤ → ℤ
half_down (pos n) = pos (n / 2)
half_down (negsuc n) = negsuc (n / 2)

-- half of a number, rounded up
abbrev pub half_up : ℤ → ℤ
half_up z = neg_ℤ (half_down (neg_ℤ z))

-- how far the other clock is ahead, where the request went off at target a, the reply came in at target d, and the other clock read s between them
abbrev pub sample_diff : ℤ → ℤ → ℤ → ℤ
sample_diff a s d = (s -ℤ a) -ℤ half_down (d -ℤ a)

-- by how much this may be wrong: half the round trip
abbrev pub sample_err : ℤ → ℤ → ℤ
sample_err a d = half_up (d -ℤ a)
