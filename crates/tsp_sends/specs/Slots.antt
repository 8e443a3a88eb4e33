-- The slots of a port's peers, each with at most one open send.
use Rattle.std.specs.Prelude.{◌≡◌, ℕ, ◌==◌, Bool, false, if◌then◌else◌, List, [], ◌∷◌, map, Option, None, Some}
use Rattle.std.specs.Option.{option_map}
use Rattle.tsp_base.specs.{Words.IsAscending, Words.Sending, Words.deadline_of, declared.kind.Kind.Kind, declared.place.PeerId.PeerId}
use Rattle.tsp_sends.specs.declared.slot.Slot.{Slot}

-- the peers that have a slot
abbrev pub peers_of : List Slot → List PeerId
peers_of slots = map (λ s. s.peer) slots

-- the slot of a peer to whom no send is open
abbrev pub empty_slot : PeerId → Slot
empty_slot p = record { peer = p; sending = None }

-- the open send to a peer
abbrev pub sending_to : List Slot → PeerId → Option Sending
sending_to [] p = None
sending_to (s ∷ slots) p = if s.peer.0 == p.0 then s.sending else sending_to slots p

-- the deadline in a slot
abbrev pub deadline_in : Slot → Option ℕ
deadline_in s = option_map deadline_of s.sending

-- the kind of a send's message
abbrev pub kind_of : Option Sending → Option Kind
kind_of s = option_map (λ s. s.message.kind) s

-- whether a send is open with this number
abbrev pub has_number : ℕ → Option Sending → Bool
has_number number None = false
has_number number (Some s) = s.message.number == number

-- the send to one peer is now this one, and each other peer's is as before
abbrev pub SetsOnly : PeerId → Option Sending → List Slot → List Slot → Type 0
SetsOnly p s old new = (q : PeerId) → sending_to new q ≡ (if p.0 == q.0 then s else sending_to old q)

-- the slots' peers ascend, and the tree has their deadlines
pub record IsSends (slots : List Slot) (deadlines : List (Option ℕ)) : Type 0 where
  pub ascending : IsAscending (peers_of slots)
  pub deadlines_are : deadlines ≡ map deadline_in slots
