-- How the next due send is found and repeated.
use Rattle.std.specs.Prelude.{◌≡◌, ℕ, ◌+◌, ◌<◌, ◌≤◌, Bool, true, false, if◌then◌else◌, List, length, Option, None, Some, Result, Ok, Err, slice_index_or}
use Rattle.std.specs.Option.{option_map}
use Rattle.tsp_base.specs.{Words.Sending, Words.deadline_of, Words.is_given_up, declared.place.PeerId.PeerId}
use Rattle.tsp_sends.specs.declared.due.Due.TheVariants.{Again, Gave}
use Rattle.tsp_sends.specs.{Deadlines.is_due, Slots.sending_to, Slots.SetsOnly, declared.due.Due.Due, declared.slot.Slot.Slot}

-- the peer comes after this one; without one, each peer does
abbrev pub IsAfter : Option PeerId → PeerId → Type 0
IsAfter None p = Unit {0}
IsAfter (Some q) p = q.0 < p.0

-- whether a send is open and due
abbrev pub is_due_send : ℕ → Option Sending → Bool
is_due_send tick s = is_due tick (option_map deadline_of s)

-- what becomes of a due send: its message is posted again, or it is given up
abbrev pub repeated : PeerId → ℕ → Sending → Due
repeated p tick s = if is_given_up s tick then Gave p s.message.kind else Again p s.message

-- the addressee of a due send
abbrev pub peer_of : Due → PeerId
peer_of (Again p m) = p
peer_of (Gave p k) = p

-- the send that is open afterwards, if any
abbrev pub kept : ℕ → Sending → Option Sending
kept tick s = if is_given_up s tick then None else Some (record s { posts = s.posts + 1 })

-- of the peers after `after`, p is the least one with a due send, which is s
pub record IsNextDue (after : Option PeerId) (tick : ℕ) (slots : List Slot) (p : PeerId) (s : Sending) : Type 0 where
  pub later : IsAfter after p
  pub sending : sending_to slots p ≡ Some s
  pub due : is_due_send tick (Some s) ≡ true
  pub first : (q : PeerId) → IsAfter after q → q.0 < p.0 → is_due_send tick (sending_to slots q) ≡ false

-- the next due send is repeated or given up; where none is due nothing changes
abbrev pub RepeatsNext : Option PeerId → ℕ → List Slot → List Slot → Option Due → Type 0
RepeatsNext after tick old new None = ((q : PeerId) → IsAfter after q → is_due_send tick (sending_to old q) ≡ false) × (new ≡ old)
RepeatsNext after tick old new (Some due) = (p : PeerId) × (s : Sending) × IsNextDue after tick old p s × (due ≡ repeated p tick s) ×
    SetsOnly p (kept tick s) old new

-- t is the deadline of one of these open sends, and none has an earlier one
pub record IsLeastSend (sending : PeerId → Option Sending) (t : ℕ) : Type 0 where
  pub of : (p : PeerId) × (s : Sending) × (sending p ≡ Some s) × (deadline_of s ≡ t)
  pub first : (p : PeerId) (s : Sending) → sending p ≡ Some s → t ≤ deadline_of s

-- the earliest deadline of the open sends to peers, if one is open
abbrev pub IsEarliest : (PeerId → Option Sending) → Option ℕ → Type 0
IsEarliest sending None = (p : PeerId) → sending p ≡ None
IsEarliest sending (Some t) = IsLeastSend sending t

-- where a peer's slot is, or where it would be
abbrev pub IsPlaceOf : PeerId → List Slot → Result ℕ ℕ → Type 0
IsPlaceOf p slots (Ok i) = (i < length slots) × ((d : Slot) → (slice_index_or slots i d).peer.0 ≡ p.0)
IsPlaceOf p slots (Err i) = (i ≤ length slots) × ((k : ℕ) (d : Slot) → k < i → (slice_index_or slots k d).peer.0 < p.0) ×
    ((k : ℕ) (d : Slot) → i ≤ k → k < length slots → p.0 < (slice_index_or slots k d).peer.0)

-- the place of the first slot whose peer comes after this one
pub record IsFirstAfter (after : Option PeerId) (slots : List Slot) (i : ℕ) : Type 0 where
  pub before : (k : ℕ) (d : Slot) → k < i → IsAfter after (slice_index_or slots k d).peer → k < length slots → ⊥
  pub later : (k : ℕ) (d : Slot) → i ≤ k → k < length slots → IsAfter after (slice_index_or slots k d).peer
