-- What a reader makes of octets, as a computation.
use Rattle.std.specs.Prelude.{ℕ, ℤ, pos, negsuc, List, [], ◌∷◌, length, Bool, ◌&&◌, ◌==◌, nat_lt, int_le, int_lt, if◌then◌else◌, Option, None, Some, option_map}
use Rattle.tsp_base.specs.{Words.kind_of, Words.carries_time, Words.carries_hops, declared.datagram.Taken.Taken, declared.kind.Kind.Kind}
use Rattle.tsp_base.specs.declared.message.Body.TheVariants.{Nothing, Time as TimeBody, Hops}
use Rattle.tsp_base.specs.declared.stamp.Stamp.TheVariants.{Request, Reply}
use Rattle.tsp_base.specs.declared.{datagram.Datagram.TheVariants.Message, datagram.Datagram.TheVariants.Stamp, message.Body.Body}
use Rattle.tsp_base.specs.declared.datagram.DecodeFault.TheVariants.{Short, Long, Version, Kind as BadKind, StampLength, NoEnd, NameTooLong, Reserved, Time}
use Rattle.tsp_base.specs.declared.datagram.Taken.TheVariants.{Good, Bad}
use Rattle.tsp_codec.specs.Spelling.{micros_field, time_field, reading_field}
use Rattle.tsp_codec.specs.{Faults.name_room, Numbers.octet_at, Numbers.be16_at, Numbers.be64_at}

-- the octets before the first NUL; None where there is none
abbrev pub before_nul : List ℕ → Option (List ℕ)
before_nul [] = None
before_nul (x ∷ xs) = if x == 0 then Some [] else option_map (λ name. x ∷ name) (before_nul xs)

-- whether a time's parts are in their ranges
abbrev pub is_time : List ℕ → Bool
is_time o = (int_le (negsuc 999998) (micros_field o) && int_le (micros_field o) (pos 999999)) && (int_le (negsuc 2147483647999999) (time_field o) && int_lt
    (time_field o) (pos 2147483648000000))

-- whether a reply's reading is in its range
abbrev pub is_reading : ℤ → Bool
is_reading r = int_lt (negsuc 2147483647999999) r && int_lt r (pos 2147483648000000)

-- the body of a message of this kind; None where its time is out of its range
abbrev pub body_of : List ℕ → Kind → Option Body
body_of o k = if carries_time k then (if is_time o then Some (TimeBody (time_field o)) else None) else (if carries_hops k then Some (Hops (octet_at o 4)) else
    Some Nothing)

-- a message of this kind, with this name and this body
abbrev pub message_taken : List ℕ → Kind → Option (List ℕ) → Option Body → Taken
message_taken o k None body = Bad (if nat_lt (length o) 268 then NoEnd else NameTooLong)
message_taken o k (Some name) None = Bad Time
message_taken o k (Some name) (Some body) = Good (Message (record { kind = k; number = be16_at o 2; body = body; name = name }))

-- a stamp request
abbrev pub request_taken : List ℕ → Taken
request_taken o = if be16_at o 2 == 0 && be64_at o 20 == 0 then Good (Stamp (Request (be64_at o 4) (be64_at o 12))) else Bad Reserved

-- a stamp reply
abbrev pub reply_taken : List ℕ → Taken
reply_taken o = if nat_lt 32767 (be16_at o 2) then Bad Reserved else (if is_reading (reading_field o) then Good
    (Stamp (Reply (record { ticket = be16_at o 2; word = be64_at o 4; counter = be64_at o 12; reading = reading_field o }))) else Bad Time)

-- octets whose type isn't a message's: a stamp, or a fault
abbrev pub stamp_taken : List ℕ → Taken
stamp_taken o = if octet_at o 0 == 128 then (if length o == 28 then request_taken o else Bad StampLength) else
    (if octet_at o 0 == 129 then (if length o == 28 then reply_taken o else Bad StampLength) else Bad BadKind)

-- octets with a valid head, by the kind that their type names, if it names one
abbrev pub kind_taken : List ℕ → Option Kind → Taken
kind_taken o None = stamp_taken o
kind_taken o (Some k) = message_taken o k (before_nul (name_room o)) (body_of o k)

-- what a reader makes of octets
unfoldable pub taken_of : List ℕ → Taken
taken_of o = if nat_lt (length o) 13 then Bad Short else (if nat_lt 268 (length o) then Bad Long else
    (if octet_at o 1 == 1 then kind_taken o (kind_of (octet_at o 0)) else Bad Version))
