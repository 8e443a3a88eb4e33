-- How many acts the steps of a schedule's nodes may put.
use Rattle.std.specs.Prelude.{◌≡◌, ℕ, ◌≤◌, List, Some, slice_get}
use Rattle.tsp_run.specs.Networks.{ports_on, room}

-- each of these numbers, by its place, is how many acts a step of the node with that number may put on these networks
abbrev pub AreRooms : List (List ℕ) → List ℕ → Type 0
AreRooms nets rooms = (n r : ℕ) → slice_get rooms n ≡ Some r → (r ≡ room (ports_on n nets)) × (r ≤ 200000)
