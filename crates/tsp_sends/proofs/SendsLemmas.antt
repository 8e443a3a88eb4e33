-- Lemmas on slots with their deadlines.
use Rattle.std.proofs.Common.{◌≡◌, ℕ, ◌+◌, ◌≤◌, ◌<◌, true, false, List, [], ◌∷◌, length, map, replicate, Option, None, Some, Ok, get_or, set, length-set}
use Rattle.std.proofs.Common.{get_or-set_same, get_or-set_other, refl, sym, ◌∙◌, ap, arith, inl, inr}
use Rattle.std.{proofs.lemmas.Bool.cases_lt, proofs.lemmas.Bool.cases_eq, specs.Option.option_map, specs.Option.option_and_then}
use Rattle.std.proofs.lemmas.List.{length-map, get_or-map, get_or_default, map-set}
use Rattle.tsp_base.specs.{Words.Sending, Words.deadline_of, Words.IsAscending, declared.place.PeerId.PeerId}
use Rattle.tsp_sends.specs.declared.{due.Due.Due, slot.Slot.Slot}
use Rattle.tsp_sends.specs.Deadlines.{is_due, deadline_at, IsFirstDue, IsFirstDueAt, IsLeast}
use Rattle.tsp_sends.specs.Slots.{peers_of, empty_slot, sending_to, deadline_in, SetsOnly, IsSends}
use Rattle.tsp_sends.specs.Repeating.{IsAfter, is_due_send, repeated, kept, RepeatsNext, IsEarliest, IsPlaceOf, IsFirstAfter}
use Rattle.tsp_sends.proofs.SlotLemmas.{Rising, Rising_ascending, sending_to_at, sending_to_found, SetsOnly_set, peers_of_set}

-- a slot gets another send, and its leaf the deadline
pub IsSends_set : (slots : List Slot) (deadlines new_deadlines : List (Option ℕ)) (i : ℕ) (d new : Slot) → IsSends slots deadlines → i < length slots →
    new.peer ≡ (get_or slots i d).peer
    → new_deadlines ≡ set deadlines i (deadline_in new) → IsSends (set slots i new) new_deadlines
IsSends_set slots deadlines new_deadlines i d new s inside peer e = record {
  ascending = rw (peers_of_set slots i d new (λ h. peer)) s.ascending;
  deadlines_are = e ∙ ap (λ ds. set ds i (deadline_in new)) s.deadlines_are ∙ sym (map-set deadline_in slots i new);
}

-- a slot is changed, and the tree gets the deadline that it then has
pub IsSends_fill : (slots new : List Slot) (deadlines new_deadlines : List (Option ℕ)) (i : ℕ) (d slot : Slot) (at : Option ℕ) → IsSends slots deadlines →
    i < length slots → new ≡ set slots i slot → slot.peer ≡ (get_or slots i d).peer
    → at ≡ deadline_in (get_or new i d) → new_deadlines ≡ set deadlines i at → IsSends new new_deadlines
IsSends_fill slots new deadlines new_deadlines i d slot at s inside put peer has tree =
    let here : get_or new i d ≡ slot = ap (λ ss. get_or ss i d) put ∙ get_or-set_same slots i slot d inside in
    rw put (IsSends_set slots deadlines new_deadlines i d slot s inside peer (tree ∙ ap (set deadlines i) (has ∙ ap deadline_in here)))

-- the deadline of a place is that of its slot
pub deadline_at_slot : (slots : List Slot) (i : ℕ) (d : Slot) → i < length slots → deadline_at (map deadline_in slots) i ≡ deadline_in (get_or slots i d)
deadline_at_slot slots i d h = get_or-map deadline_in slots i d None h

not_before : (after : Option PeerId) (slots : List Slot) (from k : ℕ) (d : Slot) → IsFirstAfter after slots from → k < length slots →
    IsAfter after (get_or slots k d).peer → from ≤ k
not_before after slots from k d f inside later = elim (cases_lt k from) [ inl below ↦ absurd (f.before k d below later inside) | inr above ↦ above ]

same_after : (after : Option PeerId) (p q : PeerId) → p.0 ≡ q.0 → IsAfter after p → IsAfter after q
same_after None p q e h = tt
same_after (Some a) p q e h = omega (arith, e, h)

-- where no place from `from` on, and below `end`, is due, no send to a later peer there is
none_due_after : (after : Option PeerId) (tick : ℕ) (slots : List Slot) (from : ℕ) (q : PeerId) (o : Option Sending) → sending_to slots q ≡ o →
    IsFirstAfter after slots from → IsAfter after q
    → ((i : ℕ) → (d : Slot) → from ≤ i → i < length slots → (get_or slots i d).peer.0 ≡ q.0 → is_due tick (deadline_at (map deadline_in slots) i) ≡ false) →
    is_due_send tick o ≡ false
none_due_after after tick slots from q None e f later late = refl
none_due_after after tick slots from q (Some s) e f later late =
    let w = sending_to_found slots q s e in
    let d : Slot = record { peer = q; sending = None } in
    let at_least : from ≤ w.0 = not_before after slots from w.0 d f w.1 (same_after after q (get_or slots w.0 d).peer (sym (w.2 d).0) later) in
    let here : deadline_at (map deadline_in slots) w.0 ≡ Some (deadline_of s) = deadline_at_slot slots w.0 d w.1 ∙ ap (option_map deadline_of) (w.2 d).1 in
    rw here at (late w.0 d at_least w.1 (w.2 d).0)

-- where the tree finds nothing, nothing is repeated
pub RepeatsNext_none : (after : Option PeerId) (tick : ℕ) (slots : List Slot) (deadlines : List (Option ℕ)) (from : ℕ) (r : Option Due) →
    IsSends slots deadlines → IsFirstAfter after slots from → IsFirstDue from tick deadlines None → r ≡ None
    → RepeatsNext after tick slots slots r
RepeatsNext_none after tick slots deadlines from r s f none e = rw e (
  λ q later. none_due_after after tick slots from q (sending_to slots q) refl f later
      (λ i d l h p. rw (ap (λ ds. is_due tick (deadline_at ds i)) (sym s.deadlines_are)) (none i l)),
  refl,
)

due_has : (tick : ℕ) (o : Option Sending) → is_due_send tick o ≡ true → (s : Sending) × (o ≡ Some s)
due_has tick None e = let bad : ⊥ = cc in absurd bad
due_has tick (Some s) e = (s, refl)

-- the send in the slot that the tree finds is repeated
pub RepeatsNext_found : (after : Option PeerId) (tick : ℕ) (slots : List Slot) (deadlines : List (Option ℕ)) (from i : ℕ) (d new : Slot) (r : Option Due) →
    IsSends slots deadlines → IsFirstAfter after slots from → IsFirstDueAt from tick deadlines i
    → new.peer ≡ (get_or slots i d).peer → new.sending ≡ option_and_then (kept tick) (get_or slots i d).sending → r ≡
    option_map (repeated (get_or slots i d).peer tick) (get_or slots i d).sending
    → RepeatsNext after tick slots (set slots i new) r
RepeatsNext_found after tick slots deadlines from i d new r s f found peer sending due =
    let rise : Rising slots = Rising_ascending slots s.ascending in
    let many : length deadlines ≡ length slots = ap length s.deadlines_are ∙ length-map slots deadline_in in
    let inside : i < length slots = omega (arith, found.inside) in
    let p : PeerId = (get_or slots i d).peer in
    let is_due_here : is_due_send tick (get_or slots i d).sending ≡ true = ap (is_due tick) (sym (ap (λ ds. deadline_at ds i) s.deadlines_are ∙
    deadline_at_slot slots i d inside)) ∙ found.due in
    let w = due_has tick (get_or slots i d).sending is_due_here in
    let here : sending_to slots (get_or slots i d).peer ≡ Some w.0 = sending_to_at slots i d (get_or slots i d).peer rise inside refl ∙ w.1 in
    let gives : r ≡ Some (repeated (get_or slots i d).peer tick w.0) = due ∙ ap (option_map (repeated (get_or slots i d).peer tick)) w.1 in
    let keeps : new.sending ≡ kept tick w.0 = sending ∙ ap (option_and_then (kept tick)) w.1 in
    let after_p : IsAfter after (get_or slots i d).peer = f.later i d found.after inside in
    rw gives (
      (get_or slots i d).peer,
      w.0,
      record {
        later = after_p;
        sending = here;
        due = ap (is_due_send tick) (sym w.1) ∙ is_due_here;
        first = λ q later below. none_due_after after tick slots from q (sending_to slots q) refl f later (λ k e l h peer_is.
            let lower : k < i = elim (cases_lt k i) [
              | inl b ↦ b
              | inr a ↦
                  let high : (get_or slots i e).peer.0 ≤ (get_or slots k e).peer.0 =
                  elim (cases_eq i k) [
                    | inl same ↦ (let t : (get_or slots i e).peer.0 ≡
                        (get_or slots k e).peer.0 = ap (λ n. (get_or slots n e).peer.0) same in omega arith)
                    | inr differ ↦
                        omega (arith, rise.at i k e (omega arith) h)
                  ] in
                  let defaults : (get_or slots i d).peer.0 ≡ (get_or slots i e).peer.0 = ap (λ (t : Slot). t.peer.0) (get_or_default slots i d e inside) in
                  absurd (omega arith)
            ] in
            ap (λ ds. is_due tick (deadline_at ds k)) (sym s.deadlines_are) ∙ found.first k l lower);
      },
      refl,
      rw (← keeps) (SetsOnly_set slots i d (get_or slots i d).peer new rise inside refl (ap (λ (q : PeerId). q.0) peer)),
    )

-- the same, as it is told of any default
pub RepeatsNext_put : (after : Option PeerId) (tick : ℕ) (slots new : List Slot) (deadlines : List (Option ℕ)) (from i : ℕ) (r : Option Due) →
    IsSends slots deadlines → IsFirstAfter after slots from → IsFirstDueAt from tick deadlines i
    → ((d : Slot) → r ≡ option_map (repeated (get_or slots i d).peer tick) (get_or slots i d).sending) →
    ((d : Slot) → new ≡ set slots i (record (get_or slots i d) { sending = option_and_then (kept tick) (get_or slots i d).sending }))
    → RepeatsNext after tick slots new r
RepeatsNext_put after tick slots new deadlines from i r s f found due put =
    let d : Slot = empty_slot (record { 0 = 0 }) in
    rw (put d) (RepeatsNext_found after tick slots deadlines from i d (record (get_or slots i d)
    { sending = option_and_then (kept tick) (get_or slots i d).sending }) r s f found refl refl (due d))

-- the tree's least deadline is that of an open send
pub IsEarliest_least : (slots : List Slot) (deadlines : List (Option ℕ)) (r : Option ℕ) → IsSends slots deadlines → IsLeast deadlines r →
    IsEarliest (sending_to slots) r
IsEarliest_least slots deadlines None s least = λ p. none_open p (sending_to slots p) refl where
  none_open : (p : PeerId) (o : Option Sending) → sending_to slots p ≡ o → o ≡ None
  none_open p None e = refl
  none_open p (Some t) e =
      let w = sending_to_found slots p t e in
      let d : Slot = record { peer = p; sending = None } in
      let here : deadline_at deadlines w.0 ≡ Some (deadline_of t) = ap (λ ds. deadline_at ds w.0) s.deadlines_are ∙ deadline_at_slot slots w.0 d w.1 ∙
      ap (option_map deadline_of) (w.2 d).1 in
      let bad : None ≡ Some (deadline_of t) = sym (least w.0) ∙ here in
      absurd (cc)
IsEarliest_least slots deadlines (Some t) s least =
    let rise : Rising slots = Rising_ascending slots s.ascending in
    let many : length deadlines ≡ length slots = ap length s.deadlines_are ∙ length-map slots deadline_in in
    let i = least.armed.0 in
    let inside : least.armed.0 < length slots = omega (arith, least.armed.1) in
    let d : Slot = record { peer = record { 0 = 0 }; sending = None } in
    let here : deadline_in (get_or slots least.armed.0 d) ≡ Some t = sym (ap (λ ds. deadline_at ds least.armed.0) s.deadlines_are ∙
    deadline_at_slot slots least.armed.0 d inside) ∙ least.armed.2 in
    let w = has_deadline (get_or slots least.armed.0 d).sending t here in
    record {
      of = ((get_or slots least.armed.0 d).peer, w.0, sending_to_at slots least.armed.0 d (get_or slots least.armed.0 d).peer rise inside refl ∙ w.1, w.2);
      first = λ p o e.
          let v = sending_to_found slots p o e in
          let at : deadline_at deadlines v.0 ≡ Some (deadline_of o) = ap (λ ds. deadline_at ds v.0) s.deadlines_are ∙ deadline_at_slot slots v.0 d v.1 ∙
          ap (option_map deadline_of) (v.2 d).1 in
          least.first v.0 (deadline_of o) at;
    } where
      has_deadline : (o : Option Sending) (t : ℕ) → option_map deadline_of o ≡ Some t → (x : Sending) × (o ≡ Some x) × (deadline_of x ≡ t)
      has_deadline None t e = let bad : ⊥ = cc in absurd bad
      has_deadline (Some x) t e = (x, refl, cc)

-- a slot that was found has the open send
pub sending_found : (slots : List Slot) (p : PeerId) (i : ℕ) (d : Slot) → IsAscending (peers_of slots) → IsPlaceOf p slots (Ok i) → sending_to slots p ≡
    (get_or slots i d).sending
sending_found slots p i d up place = sending_to_at slots i d p (Rising_ascending slots up) place.0 (place.1 d)

-- a slot that was found gets another send
pub SetsOnly_fill : (slots new : List Slot) (p : PeerId) (i : ℕ) (o : Option Sending) → IsAscending (peers_of slots) → IsPlaceOf p slots (Ok i) →
    ((d : Slot) → new ≡ set slots i (record (get_or slots i d) { sending = o })) → SetsOnly p o slots new
SetsOnly_fill slots new p i o up place e =
    let d : Slot = empty_slot p in
    rw (e d) (SetsOnly_set slots i d p (record (get_or slots i d) { sending = o }) (Rising_ascending slots up) place.0 (place.1 d) (place.1 d))

pub peers_of_fill : (slots new : List Slot) (i : ℕ) (o : Option Sending) → ((d : Slot) → new ≡ set slots i (record (get_or slots i d) { sending = o })) →
    peers_of new ≡ peers_of slots
peers_of_fill slots new i o e =
    let d : Slot = empty_slot (record { 0 = 0 }) in
    ap peers_of (e d) ∙ peers_of_set slots i d (record (get_or slots i d) { sending = o }) (λ h. refl)

-- no send is open where each slot is empty
pub none_in_empty : (slots : List Slot) (p : PeerId) → ((k : ℕ) (d : Slot) → k < length slots → (get_or slots k d).sending ≡ None) → sending_to slots p ≡ None
none_in_empty slots p empty = by_send (sending_to slots p) refl where
  by_send : (o : Option Sending) → sending_to slots p ≡ o → o ≡ None
  by_send None e = refl
  by_send (Some s) e =
      let w = sending_to_found slots p s e in
      let bad : None ≡ Some s = sym (empty w.0 (empty_slot p) w.1) ∙ (w.2 (empty_slot p)).1 in
      absurd (cc)

-- one more slot is empty
pub empty_more : (slots new : List Slot) (i : ℕ) → i < length slots → ((d : Slot) → new ≡ set slots i (record (get_or slots i d) { sending = None })) →
    ((k : ℕ) (d : Slot) → k < i → k < length slots → (get_or slots k d).sending ≡ None)
    → (k : ℕ) (d : Slot) → k < i + 1 → k < length new → (get_or new k d).sending ≡ None
empty_more slots new i inside e before k d l h = rw (e d) (elim (cases_eq k i) [
  | inl same ↦ rw (same, get_or-set_same slots i (record (get_or slots i d) { sending = None }) d inside) refl
  | inr other ↦ rw (get_or-set_other slots i k (record (get_or slots i d) { sending = None }) d other)
      (before k d (omega arith) (omega (arith, ap length (e d), length-set slots i (record (get_or slots i d) { sending = None }))))
])

pub peers_of_empty : (ps : List PeerId) → peers_of (map empty_slot ps) ≡ ps
peers_of_empty [] = refl
peers_of_empty (p ∷ ps) = ap (λ qs. p ∷ qs) (peers_of_empty ps)

pub sending_to_empty : (ps : List PeerId) (p : PeerId) → sending_to (map empty_slot ps) p ≡ None
sending_to_empty ps p = none_in_empty (map empty_slot ps) p (λ k d h. rw (get_or-map empty_slot ps k d.peer d (omega (arith, length-map ps empty_slot))) refl)

deadlines_of_empty : (ps : List PeerId) → map deadline_in (map empty_slot ps) ≡ replicate (length ps) None
deadlines_of_empty [] = refl
deadlines_of_empty (p ∷ ps) = ap (λ ds. None ∷ ds) (deadlines_of_empty ps)

-- slots without sends have a tree without deadlines
pub IsSends_empty : (ps : List PeerId) (slots : List Slot) (deadlines : List (Option ℕ)) → IsAscending ps → slots ≡ map empty_slot ps → deadlines ≡
    replicate (length ps) None → IsSends slots deadlines
IsSends_empty ps slots deadlines up e f = rw e (record { ascending = rw (peers_of_empty ps) up; deadlines_are = f ∙ sym (deadlines_of_empty ps) })

pub length_fill : (slots new : List Slot) (i : ℕ) (o : Option Sending) → ((d : Slot) → new ≡ set slots i (record (get_or slots i d) { sending = o })) →
    length new ≡ length slots
length_fill slots new i o e =
    let d : Slot = empty_slot (record { 0 = 0 }) in
    ap length (e d) ∙ length-set slots i (record (get_or slots i d) { sending = o })
