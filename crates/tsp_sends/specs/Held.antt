-- The slots that are held in memory: those of the first peers, since the other ones are empty.
use Rattle.std.specs.Prelude.{◌≡◌, ℕ, ◌≤◌, List, ◌++◌, map, length, take, drop}
use Rattle.tsp_base.specs.declared.place.PeerId.{PeerId}
use Rattle.tsp_sends.specs.{Slots.peers_of, Slots.empty_slot, declared.slot.Slot.Slot}

-- a slot for each peer: the ones that are held, and then empty ones
abbrev pub slots_of : List PeerId → List Slot → List Slot
slots_of peers held = held ++ map empty_slot (drop (length held) peers)

-- the slots are those of the first peers, and there is room for all, and for no more: so the list never grows
pub record AreHeld (peers : List PeerId) (held : List Slot) (room : ℕ) : Type 0 where
  pub front : peers_of held ≡ take (length held) peers
  pub few : length held ≤ length peers
  pub exact : room ≡ length peers
