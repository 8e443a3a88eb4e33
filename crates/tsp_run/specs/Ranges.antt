-- The ranges of the values of events, and which events are accepted.
use Rattle.std.specs.Prelude.{ℕ, ◌<◌, ◌^◌, List, All}
use Rattle.tsp_rules.specs.Values.{Event, BootAt, Bytes}
use Rattle.tsp_base.specs.Words.{HeaderValue, IsHeader}
use Rattle.tsp_codec.specs.Numbers.{octet_at}
use Rattle.tsp_run.specs.Refusals.{Valid}

-- a boot's word is less than 2^64, and octets are less than 256
abbrev pub IsInRange : Event → Type 0
IsInRange (BootAt at node word) = word < 2 ^ 64
IsInRange (Bytes at node port from octets) = (i : ℕ) → octet_at octets i < 256
IsInRange _ = Unit {0}

-- a header and events, the newest first, that are accepted: their values are in their ranges, and no event is refused
pub record Accepted (header : HeaderValue) (events : List Event) : Type 0 where
  pub header_is : IsHeader header
  pub ranges : All IsInRange events
  pub valid : Valid header events
