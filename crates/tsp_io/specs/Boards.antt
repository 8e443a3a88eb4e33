-- What is written on a board.
use Rattle.std.specs.Prelude.{◌≡◌, ℕ, Bool, true, false, ◌&&◌, ◌==◌, if◌then◌else◌, List, [], ◌∷◌, length, Option, None, Some}
use Rattle.tsp_io.specs.declared.memory_board.MarkedOctets.{MarkedOctets}

-- a write on a board: its place, counted from 0, and the octets
abbrev pub Mark : Type 0
Mark = ℕ × List ℕ

-- a write as a value
abbrev pub mark_of : MarkedOctets → Mark
mark_of m = (m.at, m.octets.items)

-- whether there is a board
abbrev pub is_there : {B : Type 0} → Option B → Bool
is_there None = false
is_there (Some board) = true

-- what is known of a board, if there is one; of none nothing is told
abbrev pub on_board : {A B : Type 0} → (B → Option A) → Option B → Option A
on_board known None = None
on_board known (Some board) = known board

-- what reads of a board will still give, read by read: octets, and the place at which they stand. The next read fails if it is of
-- another place, or of more or fewer octets, or if none is left
abbrev pub first_view : ℕ → ℕ → List Mark → Option (List ℕ)
first_view at count [] = None
first_view at count ((place, octets) ∷ views) = if (place == at) && (length octets == count) then Some octets else None

-- those that are left then
abbrev pub views_left : List Mark → List Mark
views_left [] = []
views_left (view ∷ views) = views

-- a read fills its buffer with these octets, or it fails
abbrev pub Sees : Option (List ℕ) → Bool → List ℕ → Type 0
Sees None seen buf = seen ≡ false
Sees (Some octets) seen buf = (seen ≡ true) × (buf ≡ octets)

-- the answer of a read of so many octets at a place. If it wasn't told what reads give, it isn't told afterwards either
abbrev pub TakesView : Option (List Mark) → Option (List Mark) → ℕ → ℕ → Bool → List ℕ → Type 0
TakesView None rest at count seen buf = rest ≡ None
TakesView (Some views) rest at count seen buf = (rest ≡ Some (views_left views)) × Sees (first_view at count views) seen buf

-- what reads give that is known of a board, if there is one; none of no board gives anything
abbrev pub views_on : {B : Type 0} → (B → Option (List Mark)) → Option B → Option (List Mark)
views_on known None = Some []
views_on known (Some board) = known board
