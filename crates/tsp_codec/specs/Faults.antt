-- Why octets aren't a valid datagram: the faults, and the first of them.
use Rattle.std.specs.Prelude.{◌≡◌, ◌≢◌, ℕ, ◌<◌, ◌≤◌, List, length, take, drop, true, None, Some, IsSome, Contains, ◌⊎◌, ℤ, pos, negsuc, ◌<ℤ◌}
use Rattle.tsp_base.specs.{Words.kind_of, Words.carries_time, declared.datagram.DecodeFault.DecodeFault, declared.datagram.Taken.Taken}
use Rattle.tsp_base.specs.declared.datagram.DecodeFault.TheVariants.{Short, Long, Version, Kind as BadKind, StampLength, NoEnd, NameTooLong, Reserved, Time}
use Rattle.tsp_base.specs.declared.{datagram.Taken.TheVariants.Good, datagram.Taken.TheVariants.Bad, kind.Kind.Kind}
use Rattle.tsp_codec.specs.{Numbers.octet_at, Numbers.be16_at, Numbers.be64_at, Spelling.Spells, Spelling.IsTime, Spelling.reading_field}

-- the octets in which a name must end: the first 256 from octet 12 on
abbrev pub name_room : List ℕ → List ℕ
name_room octets = take 256 (drop 12 octets)

-- the type is a message's
abbrev pub HasKind : List ℕ → Type 0
HasKind octets = IsSome (kind_of (octet_at octets 0))

-- the type is a stamp's: a request's or a reply's
abbrev pub HasStampType : List ℕ → Type 0
HasStampType octets = (octet_at octets 0 ≡ 128) ⊎ (octet_at octets 0 ≡ 129)

-- the type is that of a message with a time
abbrev pub HasTimedKind : List ℕ → Type 0
HasTimedKind octets = (kind : Kind) × (kind_of (octet_at octets 0) ≡ Some kind) × (carries_time kind ≡ true)

-- a reading within its range
pub record IsCodedReading (reading : ℤ) : Type 0 where
  pub low : negsuc 2147483647999999 <ℤ reading
  pub high : reading <ℤ pos 2147483648000000

-- the octets have this fault, whatever other faults they have
abbrev pub Applies : List ℕ → DecodeFault → Type 0
Applies octets Short = length octets < 13
Applies octets Long = 268 < length octets
Applies octets Version = octet_at octets 1 ≢ 1
Applies octets BadKind = (kind_of (octet_at octets 0) ≡ None) × (octet_at octets 0 ≢ 128) × (octet_at octets 0 ≢ 129)
Applies octets StampLength = HasStampType octets × (length octets ≢ 28)
Applies octets NoEnd = HasKind octets × (length (drop 12 octets) < 256) × ¬ Contains (name_room octets) 0
Applies octets NameTooLong = HasKind octets × (256 ≤ length (drop 12 octets)) × ¬ Contains (name_room octets) 0
Applies octets Reserved = ((octet_at octets 0 ≡ 128) × ((be16_at octets 2 ≢ 0) ⊎ (be64_at octets 20 ≢ 0))) ⊎
    ((octet_at octets 0 ≡ 129) × (32767 < be16_at octets 2))
Applies octets Time = (HasTimedKind octets × ¬ IsTime octets) ⊎ ((octet_at octets 0 ≡ 129) × ¬ IsCodedReading (reading_field octets))

-- the place of a fault in the order in which faults are looked for
abbrev pub rank : DecodeFault → ℕ
rank Short = 0
rank Long = 1
rank Version = 2
rank BadKind = 3
rank StampLength = 4
rank NoEnd = 5
rank NameTooLong = 6
rank Reserved = 7
rank Time = 8

-- the octets have this fault, and none before it in the order
pub record IsFault (octets : List ℕ) (fault : DecodeFault) : Type 0 where
  pub applies : Applies octets fault
  pub first : (earlier : DecodeFault) → rank earlier < rank fault → ¬ Applies octets earlier

-- what a reader makes of octets: the datagram that they are, or else their first fault
abbrev pub Reads : List ℕ → Taken → Type 0
Reads octets (Good datagram) = Spells octets datagram
Reads octets (Bad fault) = IsFault octets fault
