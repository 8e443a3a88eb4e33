-- Lemmas on the slots that are held in memory.
use Rattle.std.proofs.Common.{◌≡◌, ℕ, ◌+◌, ◌-◌, ◌≤◌, ◌<◌, List, [], ◌∷◌, ◌++◌, length, map, take, drop, Option, None, Some, get_or, set, length-set}
use Rattle.std.proofs.Common.{length-append, length-drop, append_assoc, refl, sym, ◌∙◌, ap, arith}
use Rattle.std.proofs.lemmas.List.{length-map, length_push, map-append, map_push, take-append-drop, take_more, drop_more, get_or-map, get_or_append_left}
use Rattle.std.proofs.lemmas.List.{get_or-append_right, set-append_left, get_or_read}
use Rattle.tsp_base.specs.{Words.Sending, declared.place.PeerId.PeerId}
use Rattle.tsp_sends.specs.{Held.slots_of, Held.AreHeld, Slots.peers_of, Slots.empty_slot, Slots.kind_of, declared.slot.Slot.Slot}
use Rattle.tsp_sends.proofs.{SendsLemmas.peers_of_empty, SlotLemmas.peers_of_set}

-- there is a slot for each peer
pub length_slots_of : (ps : List PeerId) (held : List Slot) (room : ℕ) → AreHeld ps held room → length (slots_of ps held) ≡ length ps
length_slots_of ps held room h = omega (
  arith,
  length-append held (map empty_slot (drop (length held) ps)),
  length-map (drop (length held) ps) empty_slot,
  length-drop (length held) ps,
  h.few,
)

pub peers_of_slots_of : (ps : List PeerId) (held : List Slot) (room : ℕ) → AreHeld ps held room → peers_of (slots_of ps held) ≡ ps
peers_of_slots_of ps held room h =
    map-append (λ (s : Slot). s.peer) held (map empty_slot (drop (length held) ps)) ∙ ap (λ qs. qs ++ peers_of (map empty_slot (drop (length held) ps))) h.front
    ∙ ap (λ qs. take (length held) ps ++ qs) (peers_of_empty (drop (length held) ps)) ∙ take-append-drop (length held) ps

-- a slot that is held, and one that isn't
pub get_or_held : (ps : List PeerId) (held : List Slot) (i : ℕ) (d : Slot) → i < length held → get_or (slots_of ps held) i d ≡ get_or held i d
get_or_held ps held i d inside = get_or_append_left held (map empty_slot (drop (length held) ps)) d i inside

pub get_or_past : (ps : List PeerId) (held : List Slot) (i : ℕ) (d : Slot) → length held ≤ i → i < length ps → get_or (slots_of ps held) i d ≡
    empty_slot (get_or (drop (length held) ps) (i - length held) d.peer)
get_or_past ps held i d past inside =
    get_or-append_right held (map empty_slot (drop (length held) ps)) (length held) i d refl past
    ∙ get_or-map empty_slot (drop (length held) ps) (i - length held) d.peer d (omega (arith, length-drop (length held) ps))

-- no send is open in a slot that isn't held
pub none_past : (ps : List PeerId) (held now : List Slot) (room i : ℕ) (d : Slot) → AreHeld ps held room → slots_of ps held ≡ now → length held ≤ i →
    i < length now → (get_or now i d).sending ≡ None
none_past ps held now room i d h is past inside =
    rw (← is) (ap (λ (s : Slot). s.sending) (get_or_past ps held i d past (omega (arith, inside, ap length is, length_slots_of ps held room h))))

-- a slot that is held is changed
pub slots_of_set : (ps : List PeerId) (held : List Slot) (i : ℕ) (new : Slot) → i < length held → slots_of ps (set held i new) ≡ set (slots_of ps held) i new
slots_of_set ps held i new inside =
    ap (λ n. set held i new ++ map empty_slot (drop n ps)) (length-set held i new) ∙
    sym (set-append_left held (map empty_slot (drop (length held) ps)) i new inside)

pub AreHeld-set : (ps : List PeerId) (held : List Slot) (room i : ℕ) (d new : Slot) → AreHeld ps held room →
    (i < length held → new.peer ≡ (get_or held i d).peer) → AreHeld ps (set held i new) room
AreHeld-set ps held room i d new h same = record {
  front = peers_of_set held i d new same ∙ h.front ∙ ap (λ n. take n ps) (sym (length-set held i new));
  few = omega (arith, length-set held i new, h.few);
  exact = h.exact;
}

-- one empty slot more is held
pub slots_of_more : (ps : List PeerId) (held : List Slot) (p : PeerId) → length held < length ps → p ≡ get_or ps (length held) p →
    slots_of ps (held ++ empty_slot p ∷ []) ≡ slots_of ps held
slots_of_more ps held p inside here =
    ap (λ n. (held ++ empty_slot p ∷ []) ++ map empty_slot (drop n ps)) (length_push held (empty_slot p))
    ∙ append_assoc held (empty_slot p ∷ []) (map empty_slot (drop (length held + 1) ps))
    ∙ ap (λ (q : PeerId). held ++ empty_slot q ∷ map empty_slot (drop (length held + 1) ps)) here
    ∙ ap (λ qs. held ++ map empty_slot qs) (sym (drop_more ps (length held) p inside))

pub AreHeld_more : (ps : List PeerId) (held : List Slot) (room : ℕ) (p : PeerId) → AreHeld ps held room → length held < length ps → p ≡
    get_or ps (length held) p → AreHeld ps (held ++ empty_slot p ∷ []) room
AreHeld_more ps held room p h inside here = record {
  front = map_push (λ (s : Slot). s.peer) held (empty_slot p) ∙ ap (λ qs. qs ++ p ∷ []) h.front
      ∙ ap (λ (q : PeerId). take (length held) ps ++ q ∷ []) here ∙ sym (take_more ps (length held) p inside)
      ∙ ap (λ n. take n ps) (sym (length_push held (empty_slot p)));
  few = omega (arith, length_push held (empty_slot p));
  exact = h.exact;
}

-- a slot that is held is the one at its place
pub slot_held : (ps : List PeerId) (held now : List Slot) (i : ℕ) (x d : Slot) → slots_of ps held ≡ now → i < length held → x ≡ get_or held i x → x ≡
    get_or now i d
slot_held ps held now i x d same inside is = get_or_read held i x inside is d ∙ sym (get_or_held ps held i d inside) ∙ ap (λ ss. get_or ss i d) same

pub slots_of_changed : (ps : List PeerId) (held now : List Slot) (i : ℕ) (new : Slot) → slots_of ps held ≡ now → i < length held →
    slots_of ps (set held i new) ≡ set now i new
slots_of_changed ps held now i new same inside = slots_of_set ps held i new inside ∙ ap (λ ss. set ss i new) same

-- a send has a kind
pub no_kind : (o : Option Sending) → kind_of o ≡ None → o ≡ None
no_kind None e = refl
no_kind (Some s) e = let bad : ⊥ = cc in absurd bad

-- a slot is its peer and its send
pub slot_is : (s : Slot) (p : PeerId) (o : Option Sending) → s.peer ≡ p → s.sending ≡ o → s ≡ record { peer = p; sending = o }
slot_is s p o e f = rw (← e, ← f) refl
