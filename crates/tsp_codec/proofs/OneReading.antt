-- Octets have one reading: they spell at most one datagram, and then have no fault, or they have one first fault.
use Rattle.std.proofs.Common.{◌≡◌, ℕ, ◌<◌, ◌≤◌, List, [], ◌∷◌, ◌++◌, zero, suc, length, take, slice_index_or, refl, ap, arith, Contains, sym, ◌∙◌, Some, None}
use Rattle.std.proofs.Common.{subst, inl, inr, ℤ, rules, true, false, ◌≢◌, drop, ◌⊎◌, length-take}
use Rattle.std.{proofs.lemmas.Grind.common_steps, proofs.lemmas.Bool.both_ways, specs.declared.option.Option.Option}
use Rattle.tsp_base.specs.Words.{IsName, kind_of, MessageValue, ReplyValue, carries_time, IsReply}
use Rattle.tsp_base.specs.declared.datagram.Datagram.{Datagram, TheVariants.Message, TheVariants.Stamp}
use Rattle.tsp_base.specs.declared.message.Body.{Body, TheVariants.Nothing, TheVariants.Time as TimeBody, TheVariants.Hops}
use Rattle.tsp_base.specs.declared.{stamp.Stamp.TheVariants.Request, stamp.Stamp.TheVariants.Reply, kind.Kind.Kind}
use Rattle.tsp_base.specs.declared.datagram.{DecodeFault.DecodeFault, Taken.Taken, Taken.TheVariants.Good, Taken.TheVariants.Bad}
use Rattle.tsp_base.specs.declared.datagram.DecodeFault.TheVariants.{Short, Long, Version, Kind as BadKind, StampLength, NoEnd, NameTooLong, Reserved, Time}
use Rattle.tsp_codec.specs.Faults.{HasStampType, name_room, HasKind, HasTimedKind, Applies, IsFault, Reads}
use Rattle.tsp_codec.specs.Numbers.{octet_at, be16_at, be64_at}
use Rattle.tsp_codec.specs.Spelling.{Spells, SpellsBody, SpellsMessage, IsTime, SpellsRequest, SpellsReply, HasHead, IsStamp, reading_field}

-- a list is split at a zero of its front
pub split_at_nul : (xs : List ℕ) (n end : ℕ) → end < length (take n xs) → slice_index_or (take n xs) end 0 ≡ 0 → (rest : List ℕ) ×
    (xs ≡ take end (take n xs) ++ 0 ∷ rest)
split_at_nul [] zero end h e = absurd (omega arith)
split_at_nul [] (suc n) end h e = absurd (omega arith)
split_at_nul (x ∷ xs) zero end h e = absurd (omega arith)
split_at_nul (x ∷ xs) (suc n) zero h e = (xs, ap (λ y. y ∷ xs) e)
split_at_nul (x ∷ xs) (suc n) (suc end) h e = let r = split_at_nul xs n end (omega arith) e in (r.0, ap (λ l. x ∷ l) r.1)

-- what stands before a zero of the first 256 octets is a name
pub IsName_take : (xs : List ℕ) (end : ℕ) → end < length (take 256 xs) → ¬ Contains (take end (take 256 xs)) 0 → IsName (take end (take 256 xs))
IsName_take xs end h n = record { short = omega (arith, h, length-take end (take 256 xs), length-take 256 xs); no_nul = n }

-- an octet of the front is an octet of the list
pub Contains-∷ : (a : List ℕ) (c : ℕ) → Contains a 0 → Contains (c ∷ a) 0
Contains-∷ a c k = (suc k.0, omega (arith, k.1), k.2)

-- a list of octets without zero, and then a zero, is split in one way
pub append_one_split : (a b x y : List ℕ) → ¬ Contains a 0 → ¬ Contains b 0 → a ++ 0 ∷ x ≡ b ++ 0 ∷ y → a ≡ b
append_one_split [] [] x y p q e = refl
append_one_split [] (c ∷ b) x y p q e = let h : c ≡ 0 = cc in absurd (q (0, omega arith, h))
append_one_split (c ∷ a) [] x y p q e = let h : c ≡ 0 = cc in absurd (p (0, omega arith, h))
append_one_split (c ∷ a) (d ∷ b) x y p q e =
    let h : c ≡ d = cc in
    let t : a ++ 0 ∷ x ≡ b ++ 0 ∷ y = cc in
    let r : a ≡ b = append_one_split a b x y (λ k. p (Contains-∷ a c k)) (λ k. q (Contains-∷ b d k)) t in cc

-- a short list and a zero after it stand within the front
pub Contains_take : (n : ℕ) (a x : List ℕ) → length a < n → Contains (take n (a ++ 0 ∷ x)) 0
Contains_take zero a x h = absurd (omega arith)
Contains_take (suc n) [] x h = (0, omega arith, refl)
Contains_take (suc n) (c ∷ a) x h = Contains-∷ (take n (a ++ 0 ∷ x)) c (Contains_take n a x (omega arith))

SpellsBody_one : (o : List ℕ) (k : Kind) (a b : Body) → SpellsBody o k a → SpellsBody o k b → a ≡ b
SpellsBody_one o k Nothing Nothing p q = refl
SpellsBody_one o k Nothing (Hops h) p q = absurd (both_ways _ p.1 q.1)
SpellsBody_one o k (TimeBody t) Nothing p q = absurd (both_ways _ q.0 p.0)
SpellsBody_one o k (TimeBody t) (TimeBody u) p q = ap TimeBody (p.2 ∙ sym q.2)
SpellsBody_one o k (TimeBody t) (Hops h) p q = absurd (both_ways _ q.0 p.0)
SpellsBody_one o k (Hops h) Nothing p q = absurd (both_ways _ q.1 p.1)
SpellsBody_one o k (Hops h) (Hops i) p q = ap Hops (p.2 ∙ sym q.2)
SpellsBody_one o k _ (TimeBody t) p q = absurd (both_ways _ p.0 q.0)

-- an octet is the number of one kind
pub kind_of_one : (x : Option Kind) (k l : Kind) → x ≡ Some k → x ≡ Some l → k ≡ l
kind_of_one x k l p q = cc

-- messages with the same parts are the same
pub message_parts : (k : Kind) (n : ℕ) (b : Body) (s : List ℕ) (m : MessageValue) → k ≡ m.kind → n ≡ m.number → b ≡ m.body → s ≡ m.name
    → record { kind = k; number = n; body = b; name = s } ≡ m
message_parts k n b s m e f g h = rw (e, f, g, h) refl

SpellsMessage_one : (o : List ℕ) (m n : MessageValue) → SpellsMessage o m → SpellsMessage o n → m ≡ n
SpellsMessage_one o m n p q =
    let k : m.kind ≡ n.kind = kind_of_one _ _ _ p.kind q.kind in
    message_parts m.kind m.number m.body m.name n k (p.number ∙ sym q.number)
    (SpellsBody_one o n.kind m.body n.body (subst (λ z. SpellsBody o z m.body) k p.body) q.body)
    (append_one_split m.name n.name p.name.1.0 q.name.1.0 p.name.0.no_nul q.name.0.no_nul (sym p.name.1.1 ∙ q.name.1.1))

no_kinds : (kind_of 128 ≡ None) × (kind_of 129 ≡ None)
unfolding kind_of
no_kinds = (refl, refl)

-- a stamp's type is no kind's number
pub kind_of_stamp : (o : List ℕ) → HasStampType o → kind_of (octet_at o 0) ≡ None
kind_of_stamp o s = elim s [ inl e ↦ rw e no_kinds.0 | inr e ↦ rw e no_kinds.1 ]

-- a message's type is no stamp's
pub HasStampType_kind : (o : List ℕ) (k : Kind) → kind_of (octet_at o 0) ≡ Some k → HasStampType o → ⊥
HasStampType_kind o k e s = let h : Some k ≡ None = sym e ∙ kind_of_stamp o s in cc

-- a request's type isn't a reply's
pub type_one : (n : ℕ) → n ≡ 128 → n ≡ 129 → ⊥
type_one n p q = absurd (omega arith)

-- replies with the same parts are the same
pub reply_parts : (t w c : ℕ) (z : ℤ) (s : ReplyValue) → t ≡ s.ticket → w ≡ s.word → c ≡ s.counter → z ≡ s.reading
    → record { ticket = t; word = w; counter = c; reading = z } ≡ s
reply_parts t w c z s e f g h = rw (e, f, g, h) refl

pub Spells_one : (o : List ℕ) (d e : Datagram) → Spells o d → Spells o e → d ≡ e
Spells_one o (Message m) (Message n) p q = ap Message (SpellsMessage_one o m n p q)
Spells_one o (Message m) (Stamp (Request w k)) p q = absurd (HasStampType_kind o m.kind p.kind (inl q.head.first))
Spells_one o (Message m) (Stamp (Reply r)) p q = absurd (HasStampType_kind o m.kind p.kind (inr q.head.first))
Spells_one o (Stamp (Request w k)) (Message n) p q = absurd (HasStampType_kind o n.kind q.kind (inl p.head.first))
Spells_one o (Stamp (Reply r)) (Message n) p q = absurd (HasStampType_kind o n.kind q.kind (inr p.head.first))
Spells_one o (Stamp (Request w k)) (Stamp (Request x l)) p q =
    let a : w ≡ x = p.word_read ∙ sym q.word_read in
    let b : k ≡ l = p.counter_read ∙ sym q.counter_read in cc
Spells_one o (Stamp (Request w k)) (Stamp (Reply r)) p q = absurd (type_one _ p.head.first q.head.first)
Spells_one o (Stamp (Reply r)) (Stamp (Request x l)) p q = absurd (type_one _ q.head.first p.head.first)
Spells_one o (Stamp (Reply r)) (Stamp (Reply s)) p q =
    ap (λ z. Stamp (Reply z)) (reply_parts r.ticket r.word r.counter r.reading s
    (p.ticket ∙ sym q.ticket) (p.word ∙ sym q.word) (p.counter ∙ sym q.counter) (p.reading ∙ sym q.reading))

-- a message's name ends within its room
Contains_name_room : (o : List ℕ) (m : MessageValue) → SpellsMessage o m → Contains (name_room o) 0
Contains_name_room o m p = rw p.name.1.1 (let s = p.name.0.short in Contains_take 256 m.name p.name.1.0 (omega arith))

-- a message whose kind has a time spells one
IsTime_body : (o : List ℕ) (k : Kind) (b : Body) → SpellsBody o k b → carries_time k ≡ true → IsTime o
IsTime_body o k (TimeBody v) p t = p.1
IsTime_body o k _ p t = absurd (both_ways _ p.0 t)

Applies_message : (o : List ℕ) (m : MessageValue) (f : DecodeFault) → SpellsMessage o m → Applies o f → ⊥
Applies_message o m Short p q = let l = p.head.low in absurd (omega arith)
Applies_message o m Long p q = let l = p.head.high in absurd (omega arith)
Applies_message o m Version p q = q p.head.version
Applies_message o m BadKind p q = let e : Some m.kind ≡ None = sym p.kind ∙ q.0 in cc
Applies_message o m StampLength p q = HasStampType_kind o m.kind p.kind q.0
Applies_message o m Reserved p q = HasStampType_kind o m.kind p.kind (elim q [ inl r ↦ inl r.0 | inr r ↦ inr r.0 ])
Applies_message o m Time p q = elim q [
  | inl r ↦ let k : r.0.0 ≡ m.kind = kind_of_one _ _ _ r.0.1 p.kind in r.1 (IsTime_body o m.kind m.body p.body (ap carries_time (sym k) ∙ r.0.2))
  | inr r ↦ HasStampType_kind o m.kind p.kind (inr r.0)
]
Applies_message o m _ p q = q.2 (Contains_name_room o m p)

-- a stamp's type is no message's
pub HasKind_stamp : (o : List ℕ) → HasStampType o → HasKind o → ⊥
HasKind_stamp o s k = let h : false ≡ true = rw (kind_of_stamp o s) at k in cc

-- nor that of a message with a time
pub HasTimedKind_stamp : (o : List ℕ) → HasStampType o → HasTimedKind o → ⊥
HasTimedKind_stamp o s k = HasStampType_kind o k.0 k.1 s

Applies_request : (o : List ℕ) (w c : ℕ) (f : DecodeFault) → SpellsRequest o w c → Applies o f → ⊥
Applies_request o w c = search (HasKind_stamp, HasTimedKind_stamp, type_one, rules)

Applies_reply : (o : List ℕ) (r : ReplyValue) (f : DecodeFault) → SpellsReply o r → Applies o f → ⊥
Applies_reply o r = search (HasKind_stamp, HasTimedKind_stamp, type_one, rules)

pub Spells_no_fault : (o : List ℕ) (d : Datagram) (f : DecodeFault) → Spells o d → IsFault o f → ⊥
Spells_no_fault o (Message m) f p q = Applies_message o m f p q.applies
Spells_no_fault o (Stamp (Request w c)) f p q = Applies_request o w c f p q.applies
Spells_no_fault o (Stamp (Reply r)) f p q = Applies_reply o r f p q.applies

HasKind_kind : (o : List ℕ) (k : Kind) → kind_of (octet_at o 0) ≡ Some k → HasKind o
HasKind_kind o k e = rw e refl

pub IsFault_Short : (o : List ℕ) → length o < 13 → IsFault o Short
IsFault_Short o s = record { applies = s; first = search rules }

pub IsFault_Long : (o : List ℕ) → 268 < length o → IsFault o Long
IsFault_Long o s = record { applies = s; first = search rules }

pub IsFault_Version : (o : List ℕ) → 13 ≤ length o → length o ≤ 268 → octet_at o 1 ≢ 1 → IsFault o Version
IsFault_Version o s l v = record { applies = v; first = search rules }

pub IsFault_Kind : (o : List ℕ) → HasHead o → kind_of (octet_at o 0) ≡ None → octet_at o 0 ≢ 128 → octet_at o 0 ≢ 129 → IsFault o BadKind
IsFault_Kind o h n p q = record { applies = (n, p, q); first = search rules }

pub IsFault_StampLength : (o : List ℕ) → HasHead o → HasStampType o → length o ≢ 28 → IsFault o StampLength
IsFault_StampLength o h s z = record { applies = (s, z); first = search rules }

pub IsFault_NoEnd : (o : List ℕ) (k : Kind) → HasHead o → kind_of (octet_at o 0) ≡ Some k → ¬ Contains (name_room o) 0 → length o < 268 → IsFault o NoEnd
IsFault_NoEnd o k h e n s = record { applies = (HasKind_kind o k e, grind (arith, common_steps), n); first = search (HasStampType_kind, rules) }

pub IsFault_NameTooLong : (o : List ℕ) (k : Kind) → HasHead o → kind_of (octet_at o 0) ≡ Some k → ¬ Contains (name_room o) 0 → 268 ≤ length o →
    IsFault o NameTooLong
IsFault_NameTooLong o k h e n s = let l : 256 ≤ length (drop 12 o) = grind (arith, common_steps) in
    record { applies = (HasKind_kind o k e, l, n); first = search (HasStampType_kind, rules) }

pub IsFault_Time : (o : List ℕ) (k : Kind) → HasHead o → kind_of (octet_at o 0) ≡ Some k → Contains (name_room o) 0 → carries_time k ≡ true → ¬ IsTime o →
    IsFault o Time
IsFault_Time o k h e n t b = record { applies = inl ((k, e, t), b); first = search (HasStampType_kind, rules) }

pub IsFault_Reserved_request : (o : List ℕ) → IsStamp o 128 → (be16_at o 2 ≢ 0) ⊎ (be64_at o 20 ≢ 0) → IsFault o Reserved
IsFault_Reserved_request o h r = record { applies = inl (h.first, r); first = search (HasKind_stamp, rules) }

pub IsFault_Reserved_reply : (o : List ℕ) → IsStamp o 129 → 32767 < be16_at o 2 → IsFault o Reserved
IsFault_Reserved_reply o h t = record { applies = inr (h.first, t); first = search (HasKind_stamp, rules) }

pub IsFault_Time_reply : (o : List ℕ) (ticket : ℕ) (reading : ℤ) → IsStamp o 129 → ticket ≡ be16_at o 2 → reading ≡ reading_field o → ticket ≤ 32767 →
    ¬ IsReply ticket reading → IsFault o Time
IsFault_Time_reply o t z h e f s b = let l : be16_at o 2 ≤ 32767 = rw (← e) s in record {
  applies = inr (h.first, λ r. b (record { small = omega (arith, s); low = rw f r.low; high = rw f r.high }));
  first = search (HasKind_stamp, rules);
}

-- of two first faults none stands before the other
pub IsFault_one : (o : List ℕ) (f g : DecodeFault) → IsFault o f → IsFault o g → f ≡ g
IsFault_one o f g p q = search rules

pub Reads_one : (o : List ℕ) (t u : Taken) → Reads o t → Reads o u → t ≡ u
Reads_one o (Good d) (Good e) p q = ap Good (Spells_one o d e p q)
Reads_one o (Good d) (Bad f) p q = absurd (Spells_no_fault o d f p q)
Reads_one o (Bad f) (Good e) p q = absurd (Spells_no_fault o e f q p)
Reads_one o (Bad f) (Bad g) p q = ap Bad (IsFault_one o f g p q)
