-- What a node's deeds up to one place say of its deeds up to a later one.
use Rattle.std.specs.Prelude.{◌≡◌, ◌+◌, ◌*◌, ◌<◌, ◌≤◌, ◌⊎◌, List}
use Rattle.tsp_rules.specs.Values.{GAP}
use Rattle.tsp_base.specs.Words.{Did, all_corrects, corrects, word, wall, boot_tick, last_correct, time_of, tick_of, moved, lives}

-- the node doesn't boot after s, up to t
pub record OneLife (s t : List Did) : Type 0 where
  pub lives : lives s ≡ lives t
  pub word : word s ≡ word t
  pub wall : wall s ≡ wall t
  pub boot : boot_tick s ≡ boot_tick t
  pub corrects : all_corrects t + corrects s ≡ all_corrects s + corrects t
  pub still : all_corrects s ≡ all_corrects t → moved s ≡ moved t

-- the node boots after s
pub record NewLife (s t : List Did) : Type 0 where
  pub lives : lives s < lives t
  pub boot : tick_of s ≤ boot_tick t

-- the order of times, ticks, corrections and lives; corrections are at least GAP ticks apart
pub record Since (s t : List Did) : Type 0 where
  pub time : time_of s ≤ time_of t
  pub tick : tick_of s ≤ tick_of t
  pub all : all_corrects s ≤ all_corrects t
  pub spaced : all_corrects s < all_corrects t → tick_of s + all_corrects t * GAP ≤ last_correct t + (all_corrects s + 1) * GAP
  pub last : last_correct t ≤ tick_of t
  pub lasts : last_correct s ≤ last_correct t
  pub lives : lives s ≤ lives t
  pub life : OneLife s t ⊎ NewLife s t
