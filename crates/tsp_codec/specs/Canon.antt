-- The octets that are written for a datagram.
use Rattle.std.specs.Prelude.{◌≡◌, ℕ, ◌+◌, ◌-◌, ◌^◌, ◌<◌, nat_le, if◌then◌else◌, ℤ, pos, List, [], ◌∷◌, ◌++◌, length, replicate, true}
use Rattle.std.specs.Int.{w16, w32, w64, to_be_bytes, cast_unsigned, int_div_euclid, int_rem_euclid}
use Rattle.tsp_base.specs.Words.{kind_number, MessageValue, body_fits, IsName, IsMicros, IsReply}
use Rattle.tsp_base.specs.declared.message.Body.{Body, TheVariants.Nothing, TheVariants.Time as TimeBody, TheVariants.Hops}
use Rattle.tsp_base.specs.declared.stamp.Stamp.{Stamp as StampValue, TheVariants.Request, TheVariants.Reply}
use Rattle.tsp_base.specs.declared.datagram.Datagram.{Datagram, TheVariants.Message, TheVariants.Stamp}

-- four octets in two's complement
abbrev pub int_octets : ℤ → List ℕ
int_octets value = to_be_bytes w32 (cast_unsigned w32 value)

-- seconds, and microseconds from 0 to 999,999
abbrev pub time_octets : ℤ → List ℕ
time_octets t = int_octets (int_div_euclid t (pos 1000000)) ++ int_octets (int_rem_euclid t (pos 1000000))

-- the eight octets of a body, with zeros where it has nothing
abbrev pub body_octets : Body → List ℕ
body_octets Nothing = replicate 8 0
body_octets (Hops h) = h ∷ replicate 7 0
body_octets (TimeBody t) = time_octets t

-- how many octets are written for a name of so many, its NUL and the fill included
abbrev pub room_for : ℕ → ℕ
room_for n = if nat_le n 63 then 64 else 256

-- a name, and zeros up to 64 or 256 octets
abbrev pub name_octets : List ℕ → List ℕ
name_octets name = name ++ replicate (room_for (length name) - length name) 0

-- the octets of a message: 76 where its name has at most 63 octets, else 268
abbrev pub message_octets : MessageValue → List ℕ
message_octets m = (((kind_number m.kind ∷ 1 ∷ []) ++ to_be_bytes w16 m.number) ++ body_octets m.body) ++ name_octets m.name

-- the 28 octets of a stamp
abbrev pub stamp_octets : StampValue → List ℕ
stamp_octets (Request word counter) = (((128 ∷ 1 ∷ 0 ∷ 0 ∷ []) ++ to_be_bytes w64 word) ++ to_be_bytes w64 counter) ++ replicate 8 0
stamp_octets (Reply r) = ((((129 ∷ 1 ∷ []) ++ to_be_bytes w16 r.ticket) ++ to_be_bytes w64 r.word) ++ to_be_bytes w64 r.counter) ++
    to_be_bytes w64 (cast_unsigned w64 r.reading)

-- the octets that are written for a datagram
abbrev pub canon : Datagram → List ℕ
canon (Message message) = message_octets message
canon (Stamp stamp) = stamp_octets stamp

-- how many octets are written
abbrev pub written_size : Datagram → ℕ
written_size (Message message) = 12 + room_for (length message.name)
written_size (Stamp stamp) = 28

-- a body whose number is in its range
abbrev pub IsWritableBody : Body → Type 0
IsWritableBody Nothing = Unit {0}
IsWritableBody (Hops h) = h < 2 ^ 8
IsWritableBody (TimeBody t) = IsMicros t

-- the parts of a datagram are in their ranges: so they are in each datagram that the program can hold
abbrev pub IsWritable : Datagram → Type 0
IsWritable (Message m) = (m.number < 2 ^ 16) × (body_fits m.kind m.body ≡ true) × IsName m.name × IsWritableBody m.body
IsWritable (Stamp (Request word counter)) = (word < 2 ^ 64) × (counter < 2 ^ 64)
IsWritable (Stamp (Reply r)) = (r.word < 2 ^ 64) × (r.counter < 2 ^ 64) × IsReply r.ticket r.reading
