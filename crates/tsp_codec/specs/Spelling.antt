-- What octets spell: the layout of the datagrams (TSP specification, message format).
use Rattle.std.specs.Prelude.{◌≡◌, ℕ, ◌≤◌, ℤ, pos, negsuc, ◌+ℤ◌, ◌*ℤ◌, ◌≤ℤ◌, List, ◌∷◌, ◌++◌, length, drop, true, false, Some}
use Rattle.std.specs.Int.{w32, w64, cast_signed}
use Rattle.tsp_base.specs.Words.{kind_of, carries_time, carries_hops, MessageValue, IsName, IsMicros, IsReply, ReplyValue}
use Rattle.tsp_base.specs.declared.{kind.Kind.Kind, message.Body.Body, stamp.Stamp.Stamp as StampValue}
use Rattle.tsp_base.specs.declared.message.Body.TheVariants.{Nothing, Time as TimeBody, Hops}
use Rattle.tsp_base.specs.declared.stamp.Stamp.TheVariants.{Request, Reply}
use Rattle.tsp_base.specs.declared.datagram.Datagram.{Datagram, TheVariants.Message, TheVariants.Stamp}
use Rattle.tsp_codec.specs.Numbers.{octet_at, be16_at, be32_at, be64_at}

-- the seconds of a time, in two's complement
abbrev pub seconds_field : List ℕ → ℤ
seconds_field octets = cast_signed w32 (be32_at octets 4)

-- the microseconds of a time, in two's complement
abbrev pub micros_field : List ℕ → ℤ
micros_field octets = cast_signed w32 (be32_at octets 8)

-- the value of a time in microseconds
abbrev pub time_field : List ℕ → ℤ
time_field octets = (seconds_field octets *ℤ pos 1000000) +ℤ micros_field octets

-- the microseconds lie from -999,999 to 999,999, and the value is a time
pub record IsTime (octets : List ℕ) : Type 0 where
  pub low : negsuc 999998 ≤ℤ micros_field octets
  pub high : micros_field octets ≤ℤ pos 999999
  pub value : IsMicros (time_field octets)

-- the reading of a stamp, in two's complement
abbrev pub reading_field : List ℕ → ℤ
reading_field octets = cast_signed w64 (be64_at octets 20)

-- what octets 4 to 11 say in a message of this kind
abbrev pub SpellsBody : List ℕ → Kind → Body → Type 0
SpellsBody octets kind (TimeBody t) = (carries_time kind ≡ true) × IsTime octets × (t ≡ time_field octets)
SpellsBody octets kind (Hops h) = (carries_time kind ≡ false) × (carries_hops kind ≡ true) × (h ≡ octet_at octets 4)
SpellsBody octets kind Nothing = (carries_time kind ≡ false) × (carries_hops kind ≡ false)

-- the octets from 12 on are this name, a NUL and anything after it
abbrev pub SpellsName : List ℕ → List ℕ → Type 0
SpellsName octets name = IsName name × ((rest : List ℕ) × (drop 12 octets ≡ name ++ 0 ∷ rest))

-- the length is a datagram's, and the version is 1
pub record HasHead (octets : List ℕ) : Type 0 where
  pub low : 13 ≤ length octets
  pub high : length octets ≤ 268
  pub version : octet_at octets 1 ≡ 1

-- the octets of a message
pub record SpellsMessage (octets : List ℕ) (message : MessageValue) : Type 0 where
  pub head : HasHead octets
  pub kind : kind_of (octet_at octets 0) ≡ Some message.kind
  pub number : message.number ≡ be16_at octets 2
  pub body : SpellsBody octets message.kind message.body
  pub name : SpellsName octets message.name

-- the length is a stamp's, the type is this one, and the version is 1
pub record IsStamp (octets : List ℕ) (type : ℕ) : Type 0 where
  pub size : length octets ≡ 28
  pub first : octet_at octets 0 ≡ type
  pub version : octet_at octets 1 ≡ 1

-- the octets of a request, whose ticket and reading are 0
pub record SpellsRequest (octets : List ℕ) (word : ℕ) (counter : ℕ) : Type 0 where
  pub head : IsStamp octets 128
  pub ticket : be16_at octets 2 ≡ 0
  pub word_read : word ≡ be64_at octets 4
  pub counter_read : counter ≡ be64_at octets 12
  pub reading : be64_at octets 20 ≡ 0

-- the octets of a reply, whose ticket and reading are in their ranges
pub record SpellsReply (octets : List ℕ) (reply : ReplyValue) : Type 0 where
  pub head : IsStamp octets 129
  pub ticket : reply.ticket ≡ be16_at octets 2
  pub word : reply.word ≡ be64_at octets 4
  pub counter : reply.counter ≡ be64_at octets 12
  pub reading : reply.reading ≡ reading_field octets
  pub valid : IsReply reply.ticket reply.reading

-- the octets of a stamp
abbrev pub SpellsStamp : List ℕ → StampValue → Type 0
SpellsStamp octets (Request word counter) = SpellsRequest octets word counter
SpellsStamp octets (Reply reply) = SpellsReply octets reply

-- the octets of a datagram
abbrev pub Spells : List ℕ → Datagram → Type 0
Spells octets (Message message) = SpellsMessage octets message
Spells octets (Stamp stamp) = SpellsStamp octets stamp
