-- Lemmas on the slots of a port's peers.
use Rattle.std.proofs.Common.{◌≡◌, ◌≢◌, ℕ, zero, suc, ◌<◌, ◌==◌, Bool, true, false, if◌then◌else◌, List, [], ◌∷◌, length, None, Some, get_or, set, eqb-true}
use Rattle.std.proofs.Common.{eq-eqb, refl, sym, ◌∙◌, ap, arith}
use Rattle.std.proofs.lemmas.Bool.{ne_eqb}
use Rattle.tsp_base.specs.{Words.Sending, Words.IsAscending, declared.place.PeerId.PeerId}
use Rattle.tsp_base.proofs.AscendingLemmas.{Rise, Rise_of, Rise_rest}
use Rattle.tsp_sends.specs.{Slots.peers_of, Slots.sending_to, Slots.SetsOnly, declared.slot.Slot.Slot}

-- the peers' numbers rise along the slots
abbrev pub Rising : List Slot → Type 0
Rising slots = Rise (λ (s : Slot). s.peer.0) slots

pub Rising_ascending : (slots : List Slot) → IsAscending (peers_of slots) → Rising slots
Rising_ascending slots up = Rise_of (λ (s : Slot). s.peer) slots up

-- a slot has the send to its peer
pub sending_to_at : (slots : List Slot) (i : ℕ) (d : Slot) (p : PeerId) → Rising slots → i < length slots → (get_or slots i d).peer.0 ≡ p.0 →
    sending_to slots p ≡ (get_or slots i d).sending
sending_to_at [] i d p r h e = absurd (omega arith)
sending_to_at (s ∷ slots) zero d p r h e = rw (eq-eqb s.peer.0 p.0 e) refl
sending_to_at (s ∷ slots) (suc i) d p r h e =
    let before : s.peer.0 < (get_or slots i d).peer.0 = r.at 0 (suc i) d (omega arith) h in
    rw (ne_eqb s.peer.0 p.0 (λ same. omega arith)) (sending_to_at slots i d p (Rise_rest s slots r) (omega arith) e)

-- no send is open to a peer without a slot
pub sending_to_absent : (slots : List Slot) (p : PeerId) → ((k : ℕ) (d : Slot) → k < length slots → (get_or slots k d).peer.0 ≢ p.0) → sending_to slots p ≡ None
sending_to_absent [] p h = refl
sending_to_absent (s ∷ slots) p h = rw (ne_eqb s.peer.0 p.0 (h 0 s (omega arith))) (sending_to_absent slots p (λ k d l. h (suc k) d (omega arith)))

-- an open send stands in a slot
pub sending_to_found : (slots : List Slot) (p : PeerId) (s : Sending) → sending_to slots p ≡ Some s → (i : ℕ) × (i < length slots) ×
    ((d : Slot) → ((get_or slots i d).peer.0 ≡ p.0) × ((get_or slots i d).sending ≡ Some s))
sending_to_found [] p s e = let bad : ⊥ = cc in absurd bad
sending_to_found (t ∷ slots) p s e = by_test (t.peer.0 == p.0) refl e (sending_to_found slots p s) where
  by_test : (b : Bool) → (t.peer.0 == p.0) ≡ b → (if b then t.sending else sending_to slots p) ≡ Some s
      → (sending_to slots p ≡ Some s → (i : ℕ) × (i < length slots) × ((d : Slot) → ((get_or slots i d).peer.0 ≡ p.0) × ((get_or slots i d).sending ≡ Some s)))
      → (i : ℕ) × (i < length (t ∷ slots)) × ((d : Slot) → ((get_or (t ∷ slots) i d).peer.0 ≡ p.0) × ((get_or (t ∷ slots) i d).sending ≡ Some s))
  by_test true f e rest = (0, omega arith, λ d. (eqb-true t.peer.0 p.0 f, e))
  by_test false f e rest = let w = rest e in (suc w.0, omega (arith, w.1), λ d. w.2 d)

-- a slot gets another send
set_sending : (slots : List Slot) (i : ℕ) (d : Slot) (p : PeerId) (new : Slot) (q : PeerId) → Rising slots → i < length slots → (get_or slots i d).peer.0 ≡
    p.0 → new.peer.0 ≡ p.0
    → sending_to (set slots i new) q ≡ (if p.0 == q.0 then new.sending else sending_to slots q)
set_sending [] i d p new q r h e f = absurd (omega arith)
set_sending (s ∷ slots) zero d p new q r h e f = let same : s.peer.0 ≡ p.0 = e in rw (f, same) (by_test (p.0 == q.0)) where
  by_test : (b : Bool) → (if b then new.sending else sending_to slots q) ≡ (if b then new.sending else (if b then s.sending else sending_to slots q))
  by_test true = refl
  by_test false = refl
set_sending (s ∷ slots) (suc i) d p new q r h e f =
    let before : s.peer.0 < (get_or slots i d).peer.0 = r.at 0 (suc i) d (omega arith) h in
    let other : s.peer.0 ≢ p.0 = λ same. omega arith in
    rw (set_sending slots i d p new q (Rise_rest s slots r) (omega arith) e f) (by_test (s.peer.0 == q.0) refl other) where
      by_test : (b : Bool) → (s.peer.0 == q.0) ≡ b → s.peer.0 ≢ p.0 → (if b then s.sending else (if p.0 == q.0 then new.sending else sending_to slots q)) ≡
          (if p.0 == q.0 then new.sending else (if b then s.sending else sending_to slots q))
      by_test true g n = let o : (p.0 == q.0) ≡ false = ne_eqb p.0 q.0 (λ same. n (eqb-true s.peer.0 q.0 g ∙ sym same)) in rw o refl
      by_test false g n = refl

pub SetsOnly_set : (slots : List Slot) (i : ℕ) (d : Slot) (p : PeerId) (new : Slot) → Rising slots → i < length slots → (get_or slots i d).peer.0 ≡ p.0 →
    new.peer.0 ≡ p.0 → SetsOnly p new.sending slots (set slots i new)
SetsOnly_set slots i d p new r h e f = λ q. set_sending slots i d p new q r h e f

-- the peers stay where a slot keeps its peer
pub peers_of_set : (slots : List Slot) (i : ℕ) (d new : Slot) → (i < length slots → new.peer ≡ (get_or slots i d).peer) → peers_of (set slots i new) ≡
    peers_of slots
peers_of_set [] i d new e = refl
peers_of_set (s ∷ slots) zero d new e = ap (λ p. p ∷ peers_of slots) (e (omega arith))
peers_of_set (s ∷ slots) (suc i) d new e = ap (λ ps. s.peer ∷ ps) (peers_of_set slots i d new (λ h. e (omega arith)))
