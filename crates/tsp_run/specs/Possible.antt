-- Which events are possible, however many they are. A replay's limits on events and posts aren't asked for.
use Rattle.std.specs.Prelude.{◌≡◌, ◌<◌, ◌^◌, List, [], ◌∷◌, length, None, All}
use Rattle.tsp_rules.specs.Values.{Event}
use Rattle.tsp_base.specs.Words.{HeaderValue, IsHeader}
use Rattle.tsp_run.specs.{Ranges.Accepted, Ranges.IsInRange, Refusals.impossible, Refusals.scene, Run.posts, Run.run}

-- each of these events can happen after those before it
abbrev pub Happens : HeaderValue → List Event → Type 0
Happens header [] = Unit {0}
Happens header (e ∷ before) = (impossible (scene header before) e ≡ None) × Happens header before

-- a header and events, the newest first, that are possible: their values are in their ranges, each event can happen, and
-- the run posts fewer than 2^64 datagrams, so each has a number
pub record Possible (header : HeaderValue) (events : List Event) : Type 0 where
  pub header_is : IsHeader header
  pub ranges : All IsInRange events
  pub happens : Happens header events
  pub few : length (posts (run header events)) < 2 ^ 64

-- every accepted schedule is possible
abbrev pub AcceptedIsPossible : Type 0
AcceptedIsPossible = (header : HeaderValue) (events : List Event) → Accepted header events → Possible header events
