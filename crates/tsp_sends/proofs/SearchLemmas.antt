-- Lemmas on the search for a peer's slot.
use Rattle.std.proofs.Common.{◌≡◌, ◌≢◌, ℕ, ◌+◌, ◌≤◌, ◌<◌, List, length, Option, None, Some, Result, Ok, Err, get_or, sym, ◌∙◌, ap, arith, inl, inr}
use Rattle.std.specs.{List.Contains, List.Sorted.IsBinarySearchResult, List.Sorted.IsSearchInRange, Ordering.nat_cmp}
use Rattle.std.proofs.lemmas.{Bool.cases_lt, List.length-map, List.get_or-map}
use Rattle.tsp_base.specs.{Words.IsAscending, declared.place.PeerId.PeerId}
use Rattle.tsp_base.proofs.AscendingLemmas.{Rise_peers, Parts_searched, equal_means, never_falls}
use Rattle.tsp_sends.specs.{Repeating.IsPlaceOf, Repeating.IsFirstAfter, Slots.peers_of, Slots.sending_to, declared.slot.Slot.Slot}
use Rattle.tsp_sends.proofs.SlotLemmas.{Rising, sending_to_absent}

-- the peer of a slot
peer_at : (slots : List Slot) (k : ℕ) (d : Slot) → k < length slots → (get_or (peers_of slots) k d.peer).0 ≡ (get_or slots k d).peer.0
peer_at slots k d h = ap (λ (q : PeerId). q.0) (get_or-map (λ (s : Slot). s.peer) slots k d d.peer h)

-- what a binary search by the peers' numbers finds
pub IsPlaceOf_searched : (slots : List Slot) (p : PeerId) (r : Result ℕ ℕ) → IsAscending (peers_of slots) → IsSearchInRange r (length (peers_of slots)) →
    IsBinarySearchResult (λ (q : PeerId). nat_cmp q.0 p.0) (peers_of slots) r → IsPlaceOf p slots r
IsPlaceOf_searched slots p (Ok i) up bound found =
    let inside : i < length slots = omega (arith, length-map slots (λ (s : Slot). s.peer), bound) in
    (inside, λ d. sym (peer_at slots i d inside) ∙ equal_means (get_or (peers_of slots) i d.peer).0 p.0 (found d.peer))
IsPlaceOf_searched slots p (Err i) up bound found =
    let many = length-map slots (λ (s : Slot). s.peer) in
    let parts = Parts_searched (λ (q : PeerId). q.0) p.0 (peers_of slots) i (Rise_peers (peers_of slots) up) bound found in (
      omega (arith, many, bound),
      λ k d l. omega (arith, peer_at slots k d (omega (arith, many, bound)), parts.below k d.peer l),
      λ k d l h. omega (arith, peer_at slots k d h, parts.above k d.peer l (omega (arith, many))),
    )

no_slot : (slots : List Slot) (p : PeerId) (i : ℕ) → IsPlaceOf p slots (Err i) → (k : ℕ) (d : Slot) → k < length slots → (get_or slots k d).peer.0 ≢ p.0
no_slot slots p i place k d h = λ e. elim (cases_lt k i) [
  | inl below ↦ absurd (omega (arith, place.1 k d below))
  | inr above ↦ absurd (omega (arith, place.2 k d above h))
]

-- where a search finds no slot, no send is open
pub sending_to_no_place : (slots : List Slot) (p : PeerId) (i : ℕ) → IsPlaceOf p slots (Err i) → sending_to slots p ≡ None
sending_to_no_place slots p i place = sending_to_absent slots p (no_slot slots p i place)

-- a search finds the slot of a peer that has one
pub always_found : (slots : List Slot) (p : PeerId) (i : ℕ) → Contains (peers_of slots) p → IsPlaceOf p slots (Err i) → ⊥
always_found slots p i c place =
    let inside : c.0 < length slots = omega (arith, c.1, length-map slots (λ (s : Slot). s.peer)) in
    let d : Slot = record { peer = p; sending = None } in
    let here : (get_or slots c.0 d).peer ≡ p = sym (get_or-map (λ (s : Slot). s.peer) slots c.0 d p inside) ∙ c.2 in
    no_slot slots p i place c.0 d inside (ap (λ (q : PeerId). q.0) here)

-- after a peer's own slot comes the first one of a later peer
pub IsFirstAfter_next : (slots : List Slot) (after : Option PeerId) (p : PeerId) (i : ℕ) → Rising slots → after ≡ Some p → IsPlaceOf p slots (Ok i) →
    IsFirstAfter after slots (i + 1)
IsFirstAfter_next slots after p i rise e place = rw e (record {
  before = λ k d l later inside.
      let low : (get_or slots k d).peer.0 ≤ (get_or slots i d).peer.0 = never_falls (λ (s : Slot). s.peer.0) slots rise k i d (omega arith) place.0 in
      omega (arith, place.1 d);
  later = λ k d l inside.
      let high : (get_or slots i d).peer.0 < (get_or slots k d).peer.0 = rise.at i k d (omega arith) inside in
      omega (arith, place.1 d);
})
