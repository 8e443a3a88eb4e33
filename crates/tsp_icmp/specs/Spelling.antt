-- The octets of a Timestamp message (RFC 792), and why octets aren't one.
use Rattle.std.specs.Prelude.{◌≢◌, ℕ, ◌<◌, ◌^◌, List, [], ◌∷◌, ◌++◌, length, take, drop, slice_index_or, slice_range, Bool, true, false}
use Rattle.std.specs.Int.{w16, w32, to_be_bytes}
use Rattle.tsp_icmp.specs.{Checksums.checksum, declared.timestamp.IcmpFault.IcmpFault, declared.timestamp.Timestamp.Timestamp}
use Rattle.tsp_icmp.specs.declared.timestamp.IcmpFault.TheVariants.{Length, Kind, Code, Checksum}

-- the type: 13, or 14 for the reply
abbrev pub type_of : Bool → ℕ
type_of false = 13
type_of true = 14

-- the type, and the code 0
abbrev pub head_octets : Timestamp → List ℕ
head_octets t = type_of t.reply ∷ 0 ∷ []

-- what follows the checksum
abbrev pub fields_octets : Timestamp → List ℕ
fields_octets t = to_be_bytes w16 t.ident ++ to_be_bytes w16 t.seq ++ to_be_bytes w32 t.originate ++ to_be_bytes w32 t.receive ++ to_be_bytes w32 t.transmit

-- the 20 octets of a message; its checksum is computed with zeros in its own place
abbrev pub icmp_octets : Timestamp → List ℕ
icmp_octets t = head_octets t ++ to_be_bytes w16 (checksum (head_octets t ++ 0 ∷ 0 ∷ fields_octets t)) ++ fields_octets t

-- the numbers are in their ranges: so they are in each message that the program can hold
pub record IsTimestamp (t : Timestamp) : Type 0 where
  pub ident : t.ident < 2 ^ 16
  pub seq : t.seq < 2 ^ 16
  pub originate : t.originate < 2 ^ 32
  pub receive : t.receive < 2 ^ 32
  pub transmit : t.transmit < 2 ^ 32

-- the octets with zeros in the place of the checksum
abbrev pub without_checksum : List ℕ → List ℕ
without_checksum octets = take 2 octets ++ 0 ∷ 0 ∷ drop 4 octets

-- the octet at a place; 0 past the end
abbrev pub octet : List ℕ → ℕ → ℕ
octet octets place = slice_index_or octets place 0

-- the octets have this fault, whatever other faults they have
abbrev pub HasFault : List ℕ → IcmpFault → Type 0
HasFault octets Length = length octets ≢ 20
HasFault octets Kind = (octet octets 0 ≢ 13) × (octet octets 0 ≢ 14)
HasFault octets Code = octet octets 1 ≢ 0
HasFault octets Checksum = slice_range octets 2 4 ≢ to_be_bytes w16 (checksum (without_checksum octets))

-- the place of a fault in the order in which faults are looked for
abbrev pub fault_rank : IcmpFault → ℕ
fault_rank Length = 0
fault_rank Kind = 1
fault_rank Code = 2
fault_rank Checksum = 3

-- the octets have this fault, and none before it in the order
pub record IsIcmpFault (octets : List ℕ) (fault : IcmpFault) : Type 0 where
  pub applies : HasFault octets fault
  pub first : (earlier : IcmpFault) → fault_rank earlier < fault_rank fault → ¬ HasFault octets earlier
