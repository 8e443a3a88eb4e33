-- The written spelling spells its datagram.
use Rattle.std.proofs.Common.{◌≡◌, ℕ, ◌+◌, ◌-◌, ◌^◌, ◌<◌, ◌≤◌, Bool, nat_le, if◌then◌else◌, List, ◌∷◌, ◌++◌, suc, length, drop, refl, ap, sym, ◌∙◌, arith, true}
use Rattle.std.proofs.Common.{false, replicate, ℤ, pos, negsuc, ◌+ℤ◌, ◌*ℤ◌, ◌≤ℤ◌}
use Rattle.std.specs.Int.{w32, w64, from_be_bytes, to_be_bytes, cast_signed, cast_unsigned, int_div_euclid, int_rem_euclid}
use Rattle.std.proofs.lemmas.Nat.{from_be_bytes-to_be_bytes_2, from_be_bytes-to_be_bytes_4, from_be_bytes-to_be_bytes_8}
use Rattle.std.proofs.lemmas.{Int.ints, Int.to_z-of_z, Grind.common_steps, Bool.and_parts, Bool.not-true, Bool.leb-true, Bool.false≢true}
use Rattle.std.proofs.Math.Facts.{Fits-of_z}
use Rattle.tsp_base.specs.Words.{IsMicros, carries_time, carries_hops, IsName, MessageValue, body_fits, ReplyValue, IsReply}
use mir.Val.{SFits, Fits}
use Rattle.tsp_base.proofs.KindLemmas.{kind_of_kind_number}
use Rattle.tsp_base.specs.declared.{kind.Kind.Kind, kind.Kind.TheVariants.Loop as LoopKind, stamp.Stamp.TheVariants.Request, stamp.Stamp.TheVariants.Reply}
use Rattle.tsp_base.specs.declared.message.Body.{Body, TheVariants.Nothing, TheVariants.Time as TimeBody, TheVariants.Hops}
use Rattle.tsp_base.specs.declared.datagram.Datagram.{Datagram, TheVariants.Message, TheVariants.Stamp}
use Rattle.tsp_codec.specs.Spelling.{Spells, SpellsMessage, SpellsRequest, SpellsReply, SpellsBody}
use Rattle.tsp_codec.specs.Canon.{IsWritable, IsWritableBody, message_octets, stamp_octets, name_octets, room_for, canon, written_size}

-- a kind with hops has no time
carries_time_hops : (k : Kind) → carries_hops k ≡ true → carries_time k ≡ false
unfolding carries_hops carries_time
carries_time_hops LoopKind e = refl
carries_time_hops _ e = absurd (false≢true e)

-- a name's room has a place for its NUL, and is no longer than a datagram allows
room_by : (n : ℕ) (b : Bool) → nat_le n 63 ≡ b → n ≤ 255 → (n < (if b then 64 else 256)) × ((if b then 64 else 256) ≤ 256)
room_by n true e h = let le : n ≤ 63 = leb-true n 63 e in (omega (arith, le), omega arith)
room_by n false e h = (omega (arith, h), omega arith)

pub room_for_above : (n : ℕ) → n ≤ 255 → (n < room_for n) × (room_for n ≤ 256)
room_for_above n h = room_by n (nat_le n 63) refl h

length_filled : (name : List ℕ) (room : ℕ) → length name < room → length (name ++ replicate (room - length name) 0) ≡ room
length_filled name room h = grind (arith, common_steps)

length_name_octets : (name : List ℕ) → IsName name → length (name_octets name) ≡ room_for (length name)
length_name_octets name p = length_filled name (room_for (length name)) (room_for_above (length name) p.short).0

-- the fill after a name begins with its NUL
abbrev pub fill_after : List ℕ → List ℕ
fill_after name = replicate (room_for (length name) - length name - 1) 0

-- a written name is the name, a NUL and a rest
name_octets_split : (name : List ℕ) → IsName name → name_octets name ≡ name ++ 0 ∷ fill_after name
name_octets_split name p =
    let room = (room_for_above (length name) p.short).0 in
    let nul : room_for (length name) - length name ≡ suc (room_for (length name) - length name - 1) = omega (arith, room) in
    ap (λ z. name ++ replicate {A = ℕ} z 0) nul

-- seconds and microseconds give the time back
int_div_euclid_int_rem_euclid : (t : ℤ) → (int_div_euclid t (pos 1000000) *ℤ pos 1000000) +ℤ int_rem_euclid t (pos 1000000) ≡ t
int_div_euclid_int_rem_euclid (pos a) = omega (arith, ints)
int_div_euclid_int_rem_euclid (negsuc a) = omega (arith, ints)

SFits_int_div_euclid : (t : ℤ) → IsMicros t → SFits w32 (int_div_euclid t (pos 1000000))
SFits_int_div_euclid (pos a) m = omega (arith, ints, m.low, m.high)
SFits_int_div_euclid (negsuc a) m = omega (arith, ints, m.low, m.high)

int_rem_euclid_range : (t : ℤ) → SFits w32 (int_rem_euclid t (pos 1000000))
    × (negsuc 999998 ≤ℤ int_rem_euclid t (pos 1000000)) × (int_rem_euclid t (pos 1000000) ≤ℤ pos 999999)
int_rem_euclid_range (pos a) = (omega (arith, ints), omega (arith, ints), omega (arith, ints))
int_rem_euclid_range (negsuc a) = (omega (arith, ints), omega (arith, ints), omega (arith, ints))

-- numbers in two's complement are read back from their octets
cast_signed_octets_4 : (z : ℤ) → SFits w32 z → cast_signed w32 (from_be_bytes w32 (to_be_bytes w32 (cast_unsigned w32 z))) ≡ z
cast_signed_octets_4 z f = ap (cast_signed w32) (from_be_bytes-to_be_bytes_4 (cast_unsigned w32 z) (let u : Fits w32 (cast_unsigned w32 z) = Fits-of_z f in
    omega (arith, u))) ∙ to_z-of_z w32 z f

cast_signed_octets_8 : (z : ℤ) → SFits w64 z → cast_signed w64 (from_be_bytes w64 (to_be_bytes w64 (cast_unsigned w64 z))) ≡ z
cast_signed_octets_8 z f = ap (cast_signed w64) (from_be_bytes-to_be_bytes_8 (cast_unsigned w64 z) (let u : Fits w64 (cast_unsigned w64 z) = Fits-of_z f in
    omega (arith, u))) ∙ to_z-of_z w64 z f

abbrev message : Kind → ℕ → Body → List ℕ → MessageValue
message k n b name = record { kind = k; number = n; body = b; name = name }

length_message_octets : (k : Kind) (n : ℕ) (b : Body) (name : List ℕ) → IsName name → length (message_octets (message k n b name)) ≡ 12 + room_for (length name)
length_message_octets k n Nothing name p = let z = length_name_octets name p in omega arith
length_message_octets k n _ name p = let z = length_name_octets name p in omega arith

-- what stands behind the first twelve octets
drop_message_octets : (k : Kind) (n : ℕ) (b : Body) (name : List ℕ) → drop 12 (message_octets (message k n b name)) ≡ name_octets name
drop_message_octets k n Nothing name = refl
drop_message_octets k n _ name = refl

SpellsBody_octets : (k : Kind) (n : ℕ) (b : Body) (name : List ℕ) → body_fits k b ≡ true → IsWritableBody b →
    SpellsBody (message_octets (message k n b name)) k b
unfolding body_fits
SpellsBody_octets k n Nothing name fits w = let p = and_parts _ _ fits in (not-true _ p.0, not-true _ p.1)
SpellsBody_octets k n (Hops h) name fits w = (carries_time_hops k fits, fits, refl)
SpellsBody_octets k n (TimeBody t) name fits w =
    let r = int_rem_euclid_range t in
    let s = cast_signed_octets_4 (int_div_euclid t (pos 1000000)) (SFits_int_div_euclid t w) in
    let u = cast_signed_octets_4 (int_rem_euclid t (pos 1000000)) r.0 in
    let whole = int_div_euclid_int_rem_euclid t in
    (fits, record { low = rw u r.1; high = rw u r.2; value = rw (s, u, whole) w }, rw (s, u) (sym whole))

SpellsMessage_octets : (k : Kind) (n : ℕ) (b : Body) (name : List ℕ) → n < 2 ^ 16 → body_fits k b ≡ true → IsName name → IsWritableBody b
    → SpellsMessage (message_octets (message k n b name)) (message k n b name)
SpellsMessage_octets k n b name small fits p w =
    let size = length_message_octets k n b name p in
    let room = room_for_above (length name) p.short in record {
      head = record { low = omega (arith, size, room); high = omega (arith, size, room); version = refl };
      kind = kind_of_kind_number k;
      number = sym (from_be_bytes-to_be_bytes_2 n small);
      body = SpellsBody_octets k n b name fits w;
      name = (p, (fill_after name, drop_message_octets k n b name ∙ name_octets_split name p));
    }

SpellsRequest_octets : (w c : ℕ) → w < 2 ^ 64 → c < 2 ^ 64 → SpellsRequest (stamp_octets (Request w c)) w c
SpellsRequest_octets w c p q = record {
  head = record { size = refl; first = refl; version = refl };
  ticket = refl;
  word_read = sym (from_be_bytes-to_be_bytes_8 w p);
  counter_read = sym (from_be_bytes-to_be_bytes_8 c q);
  reading = refl;
}

SpellsReply_octets : (r : ReplyValue) → r.word < 2 ^ 64 → r.counter < 2 ^ 64 → IsReply r.ticket r.reading → SpellsReply (stamp_octets (Reply r)) r
SpellsReply_octets r w c p =
    let f : SFits w64 r.reading = omega (arith, ints, p.low, p.high) in
    let t : r.ticket < 2 ^ 16 = omega (arith, p.small) in record {
      head = record { size = refl; first = refl; version = refl };
      ticket = sym (from_be_bytes-to_be_bytes_2 r.ticket t);
      word = sym (from_be_bytes-to_be_bytes_8 r.word w);
      counter = sym (from_be_bytes-to_be_bytes_8 r.counter c);
      reading = sym (cast_signed_octets_8 r.reading f);
      valid = p;
    }

pub Spells_canon : (d : Datagram) → IsWritable d → Spells (canon d) d
Spells_canon (Message m) w = SpellsMessage_octets m.kind m.number m.body m.name w.0 w.1 w.2 w.3
Spells_canon (Stamp (Request a b)) w = SpellsRequest_octets a b w.0 w.1
Spells_canon (Stamp (Reply r)) w = SpellsReply_octets r w.0 w.1 w.2

pub length_canon : (d : Datagram) → IsWritable d → length (canon d) ≡ written_size d
length_canon (Message m) w = length_message_octets m.kind m.number m.body m.name w.2
length_canon (Stamp (Request a b)) w = refl
length_canon (Stamp (Reply r)) w = refl
