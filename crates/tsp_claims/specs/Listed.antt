-- What listed events decide, of which the newest is the first.
use Rattle.std.specs.Prelude.{◌≡◌, ℕ, ◌==◌, ◌<◌, Bool, false, ◌||◌, List, [], ◌∷◌, length, Option, None, Some, slice_get}
use Rattle.tsp_base.specs.declared.event.Event.{Event}
use Rattle.tsp_base.specs.declared.event.Event.TheVariants.{Boot as BootAt, Turn, Take, Bytes}

-- whether an event boots node n
abbrev pub is_boot_of : Event → ℕ → Bool
is_boot_of (BootAt at node word) n = node == n
is_boot_of _ n = false

-- whether one of these events boots node n
abbrev pub booted : List Event → ℕ → Bool
booted [] n = false
booted (e ∷ before) n = is_boot_of e n || booted before n

abbrev pub is_up : Option Bool → Bool
is_up None = false
is_up (Some up) = up

-- whether node n is up, by a list that says it of each node
abbrev pub up_in : List Bool → ℕ → Bool
up_in ups n = is_up (slice_get ups n)

-- the node that an event names is below this number; a take names none
abbrev pub NamesNode : ℕ → Event → Type 0
NamesNode nodes (BootAt at node word) = node < nodes
NamesNode nodes (Turn at node) = node < nodes
NamesNode nodes (Take at k) = Unit {0}
NamesNode nodes (Bytes at node port from octets) = node < nodes

-- after an event a node is up that was up before, or that the event boots
abbrev pub IsUpAfter : Event → List Bool → List Bool → Type 0
IsUpAfter e old new = (length new ≡ length old) × ((n : ℕ) → up_in new n ≡ (is_boot_of e n || up_in old n))
