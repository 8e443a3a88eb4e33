-- The pages that a daemon and its supervisor can write: their numbers are so far from the ends of 64 bits that no sum of them leaves these.
use Rattle.std.specs.Prelude.{◌≤◌, ◌^◌, pos, ◌≤ℤ◌, ◌<ℤ◌, nat_abs}
use Rattle.tsp_page.specs.declared.daemon_half.DaemonHalf.{DaemonHalf}
use Rattle.tsp_page.specs.declared.look_half.LookHalf.{LookHalf}

-- nanoseconds below 2^62, ticks at most 2^53, and a rate of at most 1,000 parts in a million
pub record IsSoundCount (h : DaemonHalf) : Type 0 where
  pub origin_low : pos 0 ≤ℤ h.origin
  pub origin_high : h.origin <ℤ pos (2 ^ 62)
  pub origin_tick : h.origin_tick ≤ 2 ^ 51
  pub rate : nat_abs h.rate ≤ 1000000
  pub tick : h.tick ≤ 2 ^ 53

-- besides, times of at most 2^56
pub record IsSoundDaemon (h : DaemonHalf) : Type 0 where
  pub count : IsSoundCount h
  pub target : nat_abs h.target ≤ 2 ^ 56
  pub rest : nat_abs h.rest ≤ 2 ^ 56
  pub moved : nat_abs h.moved ≤ 2 ^ 56

-- times of at most 2^56, and a drift of at most 1,000 parts in a million
pub record IsSoundLook (h : LookHalf) : Type 0 where
  pub moved : nat_abs h.moved ≤ 2 ^ 56
  pub low : nat_abs h.low ≤ 2 ^ 56
  pub high : nat_abs h.high ≤ 2 ^ 56
  pub drift : h.drift ≤ 1000
