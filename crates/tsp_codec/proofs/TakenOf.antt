-- What is computed from octets is what a reader takes.
use Rattle.std.proofs.Common.{◌≡◌, ◌≢◌, ℕ, ◌+◌, ◌<◌, ◌≤◌, List, [], ◌∷◌, ◌++◌, zero, suc, length, drop, slice_index_or, length-append, length-take, refl, ap}
use Rattle.std.proofs.Common.{sym, ◌∙◌}
use Rattle.std.proofs.Common.{arith, Some, None, true, false, Bool, ◌&&◌, inl, inr, ◌↔◌, Contains, ℤ, T, if◌then◌else◌, option_map, ◌==◌, nat_lt, Option}
use Rattle.std.proofs.lemmas.Bool.{ltb-true, ltb-false, eqb-true, eqb-false, and_parts, and_from, both_ways}
use Rattle.std.proofs.lemmas.{Float.T_from_true, List.append_assoc, List.take-append-drop}
use Rattle.tsp_base.specs.Words.{kind_of, carries_time, carries_hops}
use Rattle.tsp_base.specs.declared.datagram.{Datagram.Datagram, Datagram.TheVariants.Stamp, Taken.Taken, Taken.TheVariants.Good, Taken.TheVariants.Bad}
use Rattle.tsp_base.specs.declared.{kind.Kind.Kind, stamp.Stamp.Stamp as StampValue, stamp.Stamp.TheVariants.Request, stamp.Stamp.TheVariants.Reply}
use Rattle.tsp_base.specs.declared.message.Body.{Body, TheVariants.Nothing, TheVariants.Time as TimeBody, TheVariants.Hops}
use Rattle.tsp_base.specs.declared.datagram.DecodeFault.TheVariants.{Short, Long, Version, Kind as BadKind, StampLength, NoEnd, NameTooLong, Reserved, Time}
use Rattle.tsp_codec.specs.{Numbers.octet_at, Numbers.be16_at, Numbers.be64_at, Canon.canon, Canon.IsWritable}
use Rattle.tsp_codec.specs.Spelling.{HasHead, IsStamp, IsTime, Spells, SpellsBody, SpellsName, time_field, reading_field}
use Rattle.tsp_codec.specs.Taken.{before_nul, is_time, is_reading, body_of, message_taken, request_taken, reply_taken, kind_taken, taken_of}
use Rattle.tsp_codec.proofs.OneReading.{Contains-∷, Reads_one, IsFault_Short, IsFault_Long, IsFault_Version, IsFault_Kind, IsFault_StampLength, IsFault_NoEnd}
use Rattle.tsp_codec.proofs.OneReading.{IsFault_NameTooLong, IsFault_Time, IsFault_Reserved_request, IsFault_Reserved_reply, IsFault_Time_reply}
use Rattle.tsp_codec.{proofs.Written.Spells_canon, specs.Faults.name_room, specs.Faults.IsCodedReading, specs.Faults.Reads}

-- what stands before the first NUL of a room
abbrev EndsAtNul : List ℕ → Option (List ℕ) → Type 0
EndsAtNul xs None = ¬ Contains xs 0
EndsAtNul xs (Some name) = (¬ Contains name 0) × ((rest : List ℕ) × (xs ≡ name ++ 0 ∷ rest))

no_place : (x : ℕ) (xs : List ℕ) → x ≢ 0 → ¬ Contains xs 0 → (i : ℕ) → i < length (x ∷ xs) → slice_index_or (x ∷ xs) i 0 ≡ 0 → ⊥
no_place x xs p q zero l e = p e
no_place x xs p q (suc i) l e = q (i, omega (arith, l), e)

EndsAtNul-∷ : (x : ℕ) (xs : List ℕ) (b : Bool) → (x == 0) ≡ b → (r : Option (List ℕ)) → EndsAtNul xs r →
    EndsAtNul (x ∷ xs) (if b then Some [] else option_map (λ name. x ∷ name) r)
EndsAtNul-∷ x xs true e r p = ((λ k. absurd (omega (arith, k.1))), (xs, ap (λ y. y ∷ xs) (eqb-true x 0 e)))
EndsAtNul-∷ x xs false e None p = λ k. no_place x xs (eqb-false x 0 e) p k.0 k.1 k.2
EndsAtNul-∷ x xs false e (Some name) p = ((λ k. no_place x name (eqb-false x 0 e) p.0 k.0 k.1 k.2), (p.1.0, ap (λ y. x ∷ y) p.1.1))

EndsAtNul_before_nul : (xs : List ℕ) → EndsAtNul xs (before_nul xs)
EndsAtNul_before_nul [] = λ k. absurd (omega (arith, k.1))
EndsAtNul_before_nul (x ∷ xs) = EndsAtNul-∷ x xs (x == 0) refl (before_nul xs) (EndsAtNul_before_nul xs)

Contains_append : (a x : List ℕ) → Contains (a ++ 0 ∷ x) 0
Contains_append [] x = (0, omega arith, refl)
Contains_append (c ∷ a) x = Contains-∷ (a ++ 0 ∷ x) c (Contains_append a x)

-- what stands before a NUL is shorter than the whole
length_before : (xs name rest : List ℕ) → length xs ≤ 256 → xs ≡ name ++ 0 ∷ rest → length name ≤ 255
length_before xs name rest l e = let m : length xs ≡ length name + length (0 ∷ rest) = ap length e ∙ length-append name (0 ∷ rest) in omega (arith, l, m)

SpellsName_room : (o name : List ℕ) → EndsAtNul (name_room o) (Some name) → SpellsName o name
SpellsName_room o name p = (
  record { short = length_before (name_room o) name p.1.0 (omega (arith, length-take 256 (drop 12 o))) p.1.1; no_nul = p.0 },
  (
    p.1.0 ++ drop 256 (drop 12 o),
    sym (take-append-drop 256 (drop 12 o)) ∙ ap (λ z. z ++ drop 256 (drop 12 o)) p.1.1 ∙
        append_assoc name (0 ∷ p.1.0) (drop 256 (drop 12 o)),
  ),
)

true_from_T : (b : Bool) → T b → b ≡ true
true_from_T true t = refl
true_from_T false t = absurd t

IsTime_is_time : (o : List ℕ) → is_time o ≡ true → IsTime o
IsTime_is_time o e =
    let p = and_parts _ _ e in
    let a = and_parts _ _ p.0 in
    let b = and_parts _ _ p.1 in
    record {
      low = record { le = T_from_true _ a.0 };
      high = record { le = T_from_true _ a.1 };
      value = record {
        low = record { le = T_from_true _ b.0 };
        high = record { lt = T_from_true _ b.1 };
      };
    }

is_time_IsTime : (o : List ℕ) → IsTime o → is_time o ≡ true
is_time_IsTime o p = and_from _ _ (and_from _ _ (true_from_T _ p.low.le) (true_from_T _ p.high.le))
    (and_from _ _ (true_from_T _ p.value.low.le) (true_from_T _ p.value.high.lt))

IsCodedReading_is_reading : (r : ℤ) → is_reading r ≡ true → IsCodedReading r
IsCodedReading_is_reading r e = let p = and_parts _ _ e in record { low = record { lt = T_from_true _ p.0 }; high = record { lt = T_from_true _ p.1 } }

is_reading_IsCodedReading : (r : ℤ) → IsCodedReading r → is_reading r ≡ true
is_reading_IsCodedReading r p = and_from _ _ (true_from_T _ p.low.lt) (true_from_T _ p.high.lt)

-- what a body is read as
abbrev ReadsBody : List ℕ → Kind → Option Body → Type 0
ReadsBody o k None = (carries_time k ≡ true) × ¬ IsTime o
ReadsBody o k (Some body) = SpellsBody o k body

ReadsBody_if : (o : List ℕ) (k : Kind) (a b c : Bool) → carries_time k ≡ a → is_time o ≡ b → carries_hops k ≡ c
    → ReadsBody o k (if a then (if b then Some (TimeBody (time_field o)) else None) else (if c then Some (Hops (octet_at o 4)) else Some Nothing))
ReadsBody_if o k true true c d e f = (d, IsTime_is_time o e, refl)
ReadsBody_if o k true false c d e f = (d, λ t. both_ways _ e (is_time_IsTime o t))
ReadsBody_if o k false b true d e f = (d, f, refl)
ReadsBody_if o k false b false d e f = (d, f)

Reads_short_name : (o : List ℕ) (k : Kind) (b : Bool) → nat_lt (length o) 268 ≡ b → HasHead o → kind_of (octet_at o 0) ≡ Some k → ¬ Contains (name_room o) 0 →
    Reads o (Bad (if b then NoEnd else NameTooLong))
Reads_short_name o k true e h t n = IsFault_NoEnd o k h t n (ltb-true (length o) 268 e)
Reads_short_name o k false e h t n = IsFault_NameTooLong o k h t n (ltb-false (length o) 268 e)

Reads_message_taken : (o : List ℕ) (k : Kind) → HasHead o → kind_of (octet_at o 0) ≡ Some k → (name : Option (List ℕ)) → EndsAtNul (name_room o) name →
    (body : Option Body) → ReadsBody o k body → Reads o (message_taken o k name body)
Reads_message_taken o k h t None n body b = Reads_short_name o k (nat_lt (length o) 268) refl h t n
Reads_message_taken o k h t (Some name) n None b = IsFault_Time o k h t (rw n.1.1 (Contains_append name n.1.0)) b.0 b.1
Reads_message_taken o k h t (Some name) n (Some body) b = record { head = h; kind = t; number = refl; body = b; name = SpellsName_room o name n }

Reads_request_taken : (o : List ℕ) (a b : Bool) → (be16_at o 2 == 0) ≡ a → (be64_at o 20 == 0) ≡ b → IsStamp o 128
    → Reads o (if a && b then Good (Stamp (Request (be64_at o 4) (be64_at o 12))) else Bad Reserved)
Reads_request_taken o true true d e h = record {
  head = h;
  ticket = eqb-true (be16_at o 2) 0 d;
  word_read = refl;
  counter_read = refl;
  reading = eqb-true (be64_at o 20) 0 e;
}
Reads_request_taken o true false d e h = IsFault_Reserved_request o h (inr (eqb-false (be64_at o 20) 0 e))
Reads_request_taken o false b d e h = IsFault_Reserved_request o h (inl (eqb-false (be16_at o 2) 0 d))

Reads_reply_taken : (o : List ℕ) (a b : Bool) → nat_lt 32767 (be16_at o 2) ≡ a → is_reading (reading_field o) ≡ b → IsStamp o 129
    → Reads o (if a then Bad Reserved else (if b then Good (Stamp (Reply (record {
      ticket = be16_at o 2;
      word = be64_at o 4;
      counter = be64_at o 12;
      reading = reading_field o;
    }))) else Bad Time))
Reads_reply_taken o true b d e h = IsFault_Reserved_reply o h (ltb-true 32767 (be16_at o 2) d)
Reads_reply_taken o false true d e h =
    let r = IsCodedReading_is_reading (reading_field o) e in
    let t : be16_at o 2 < 32768 = omega (arith, ltb-false 32767 (be16_at o 2) d) in record {
      head = h;
      ticket = refl;
      word = refl;
      counter = refl;
      reading = refl;
      valid = record { small = t; low = r.low; high = r.high };
    }
Reads_reply_taken o false false d e h =
    IsFault_Time_reply o (be16_at o 2) (reading_field o) h refl refl (ltb-false 32767 (be16_at o 2) d)
    (λ r. both_ways _ e (is_reading_IsCodedReading (reading_field o) (record { low = r.low; high = r.high })))

Reads_stamp_taken : (o : List ℕ) (a b c : Bool) → (octet_at o 0 == 128) ≡ a → (octet_at o 0 == 129) ≡ b → (length o == 28) ≡ c → HasHead o →
    kind_of (octet_at o 0) ≡ None
    → Reads o (if a then (if c then request_taken o else Bad StampLength) else (if b then (if c then reply_taken o else Bad StampLength) else Bad BadKind))
Reads_stamp_taken o true b true d e f h n = Reads_request_taken o (be16_at o 2 == 0) (be64_at o 20 == 0) refl refl (record {
  size = eqb-true (length o) 28 f;
  first = eqb-true (octet_at o 0) 128 d;
  version = h.version;
})
Reads_stamp_taken o true b false d e f h n = IsFault_StampLength o h (inl (eqb-true (octet_at o 0) 128 d)) (eqb-false (length o) 28 f)
Reads_stamp_taken o false true true d e f h n = Reads_reply_taken o (nat_lt 32767 (be16_at o 2)) (is_reading (reading_field o)) refl refl
    (record { size = eqb-true (length o) 28 f; first = eqb-true (octet_at o 0) 129 e; version = h.version })
Reads_stamp_taken o false true false d e f h n = IsFault_StampLength o h (inr (eqb-true (octet_at o 0) 129 e)) (eqb-false (length o) 28 f)
Reads_stamp_taken o false false c d e f h n = IsFault_Kind o h n (eqb-false (octet_at o 0) 128 d) (eqb-false (octet_at o 0) 129 e)

Reads_kind_taken : (o : List ℕ) (k : Option Kind) → kind_of (octet_at o 0) ≡ k → HasHead o → Reads o (kind_taken o k)
Reads_kind_taken o None e h = Reads_stamp_taken o (octet_at o 0 == 128) (octet_at o 0 == 129) (length o == 28) refl refl refl h e
Reads_kind_taken o (Some k) e h = Reads_message_taken o k h e (before_nul (name_room o)) (EndsAtNul_before_nul (name_room o)) (body_of o k)
    (ReadsBody_if o k (carries_time k) (is_time o) (carries_hops k) refl refl refl)

Reads_if : (o : List ℕ) (a b c : Bool) → nat_lt (length o) 13 ≡ a → nat_lt 268 (length o) ≡ b → (octet_at o 1 == 1) ≡ c
    → Reads o (if a then Bad Short else (if b then Bad Long else (if c then kind_taken o (kind_of (octet_at o 0)) else Bad Version)))
Reads_if o true b c d e f = IsFault_Short o (ltb-true (length o) 13 d)
Reads_if o false true c d e f = IsFault_Long o (ltb-true 268 (length o) e)
Reads_if o false false true d e f = Reads_kind_taken o (kind_of (octet_at o 0)) refl (record {
  low = ltb-false (length o) 13 d;
  high = ltb-false 268 (length o) e;
  version = eqb-true (octet_at o 1) 1 f;
})
Reads_if o false false false d e f = IsFault_Version o (ltb-false (length o) 13 d) (ltb-false 268 (length o) e) (eqb-false (octet_at o 1) 1 f)

pub Reads_taken_of : (o : List ℕ) → Reads o (taken_of o)
unfolding taken_of
Reads_taken_of o = Reads_if o (nat_lt (length o) 13) (nat_lt 268 (length o)) (octet_at o 1 == 1) refl refl refl

pub taken_of_Reads : (o : List ℕ) (t : Taken) → Reads o t → taken_of o ≡ t
taken_of_Reads o t r = Reads_one o (taken_of o) t (Reads_taken_of o) r

pub Reads_taken_of_iff : (o : List ℕ) (t : Taken) → (taken_of o ≡ t) ↔ Reads o t
Reads_taken_of_iff o t = ((λ e. rw (← e) (Reads_taken_of o)), taken_of_Reads o t)

-- octets that spell no stamp aren't taken for one
pub no_stamp : (o : List ℕ) → ((s : StampValue) → ¬ Spells o (Stamp s)) → (s : StampValue) → taken_of o ≢ Good (Stamp s)
no_stamp o none s e = none s ((Reads_taken_of_iff o (Good (Stamp s))).0 e)

-- what was written is taken as it was
pub taken_of_canon : (d : Datagram) → IsWritable d → taken_of (canon d) ≡ Good d
taken_of_canon d w = taken_of_Reads (canon d) (Good d) (Spells_canon d w)
