-- What a link receives and sends. A list is None if it isn't told, as over a real network.
use Rattle.std.specs.Prelude.{◌≡◌, ℕ, ◌≤◌, List, [], ◌∷◌, ◌++◌, take, Bool, true, false, None, Some, Option}
use Rattle.std.specs.Option.{option_map}
use Rattle.tsp_base.specs.declared.place.Place.{Place, TheVariants.Peer, TheVariants.Stranger}
use Rattle.tsp_io.specs.declared.{addr.Addr.Addr, link.Bound.Bound, link.Bound.TheVariants.Bound as Made, link.Recv.Recv, link.Sent.Sent}
use Rattle.tsp_io.specs.declared.link.Recv.TheVariants.{Datagram, Nothing, Failed}
use Rattle.tsp_io.specs.declared.link.Sent.TheVariants.{Sent as Went, Failed as Lost, OutOfMemory}

-- what one receive gets: a datagram and its sender, or nothing
abbrev pub Arrival : Type 0
Arrival = Option (Place × List ℕ)

-- a send that was tried: to whom, and the octets
abbrev pub Tried : Type 0
Tried = Place × List ℕ

-- what a link was bound to: an address of this machine, and the addresses of the peers, the first of which is peer 0
pub record Binding : Type 0 where
  pub local : Addr
  pub peers : List Addr

-- whether a datagram came from an address that is no peer's
abbrev pub is_from_stranger : Place → Bool
is_from_stranger Stranger = true
is_from_stranger (Peer p) = false

-- these are the first 512 octets of the next arrival, a datagram that came from this place. If the arrivals weren't
-- told, they aren't told afterwards either
abbrev pub TakesDatagram : Option (List Arrival) → Option (List Arrival) → Place → List ℕ → Type 0
TakesDatagram None rest from octets = rest ≡ None
TakesDatagram (Some left) rest from octets = (whole : List ℕ) × (after : List Arrival) × (left ≡ Some (from, whole) ∷ after) × (rest ≡ Some after) ×
    (octets ≡ take 512 whole)

-- the next arrival is nothing, or no arrival is left. If the arrivals weren't told, they aren't told afterwards either
abbrev pub TakesNothing : Option (List Arrival) → Option (List Arrival) → Type 0
TakesNothing None rest = rest ≡ None
TakesNothing (Some []) rest = rest ≡ Some []
TakesNothing (Some (a ∷ after)) rest = (a ≡ None) × (rest ≡ Some after)

-- what a receive answers, and what it makes of the arrivals and of whether the last datagram was a stranger's. A
-- receive that fails takes nothing
abbrev pub ReceivesOne : Option (List Arrival) → Option (List Arrival) → Bool → Bool → Recv → List ℕ → Type 0
ReceivesOne left rest stranger now_stranger (Datagram from count) buf = (count ≤ 512) × TakesDatagram left rest from (take count buf) ×
    (now_stranger ≡ is_from_stranger from)
ReceivesOne left rest stranger now_stranger Nothing buf = TakesNothing left rest × (now_stranger ≡ stranger)
ReceivesOne left rest stranger now_stranger Failed buf = (rest ≡ left) × (now_stranger ≡ stranger)

-- one send more was tried. If the sends weren't told, they aren't told afterwards either
abbrev pub AddsSend : Option (List Tried) → Option (List Tried) → Tried → Type 0
AddsSend tried more t = more ≡ option_map (λ ts. ts ++ t ∷ []) tried

-- what a send does to the list of tried sends: a datagram that was lost was tried, one for which there was no memory
-- wasn't
abbrev pub Sends : Option (List Tried) → Option (List Tried) → Sent → Tried → Type 0
Sends tried more Went t = AddsSend tried more t
Sends tried more Lost t = AddsSend tried more t
Sends tried more OutOfMemory t = more ≡ tried

-- one call more is noted. Calls that weren't told aren't told afterwards either; those that were told aren't any more
-- if there was no memory to note this one
abbrev pub NotesReceive : {A : Type 0} → Option (List A) → Option (List A) → A → Type 0
NotesReceive noted None x = Unit {0}
NotesReceive None (Some now) x = ⊥
NotesReceive (Some before) (Some now) x = now ≡ before ++ x ∷ []

-- a bind that succeeds is noted; after any other answer what was noted is unchanged
abbrev pub NotesBind : Option (List Binding) → Option (List Binding) → Bound → Binding → Type 0
NotesBind noted now Made b = NotesReceive noted now b
NotesBind noted now _ b = now ≡ noted
