-- The lines of exchanges, and why a line isn't one.
use Rattle.std.specs.Prelude.{◌≡◌, ℕ, ◌<◌, ◌≤◌, ◌⊎◌, List, ◌∷◌, ◌++◌, length, Bool, true, false, if◌then◌else◌, decimal, codes}
use Rattle.std.specs.declared.result.Result.{Result, TheVariants.Ok, TheVariants.Err}
use Rattle.hex.specs.Hex.{decode_of}
use Rattle.tsp_icmp.specs.{Spelling.icmp_octets, Spelling.IsTimestamp, Spelling.IsIcmpFault, declared.timestamp.IcmpFault.IcmpFault}
use Rattle.tsp_icmp.specs.declared.timestamp.Timestamp.{Timestamp}
use Rattle.tsp_icmp.specs.declared.timestamp.IcmpFault.TheVariants.{Length, Kind, Code, Checksum}
use Rattle.tsp_script.specs.Schedules.{IsHost}
use Rattle.tsp_icmp_command.specs.declared.{exchange.Exchange.Exchange, record.Record.Record}

-- octets are this Timestamp message, or have this first fault
abbrev pub SaysRecord : List ℕ → Result Timestamp IcmpFault → Type 0
SaysRecord octets (Ok t) = IsTimestamp t × (octets ≡ icmp_octets t)
SaysRecord octets (Err fault) = IsIcmpFault octets fault

-- a word is at least one octet in hexadecimal, with letters in either case, and the octets are this message or have this fault
abbrev pub SaysInHex : List ℕ → Result Timestamp IcmpFault → Type 0
SaysInHex word message = (octets : List ℕ) × (0 < length octets) × (decode_of word ≡ Ok octets) × SaysRecord octets message

-- a line's four words: a name, two words of hexadecimal, and a time of the day in milliseconds
pub record IsRecord (line : List ℕ) (r : Record) : Type 0 where
  pub short : length line ≤ 1024
  pub name : IsHost r.name
  pub arrival : r.arrival < 86400000
  pub words : (request : List ℕ) × (reply : List ℕ) × SaysInHex request r.request × SaysInHex reply r.reply ×
      (line ≡ r.name ++ 32 ∷ (request ++ 32 ∷ (reply ++ 32 ∷ decimal r.arrival)))

-- the message, if it is a reply (or, with the flag false, a request); the other one has the fault `Kind`
abbrev pub expected : Bool → Result Timestamp IcmpFault → Result Timestamp IcmpFault
expected true (Ok t) = if t.reply then Ok t else Err Kind
expected false (Ok t) = if t.reply then Err Kind else Ok t
expected reply (Err fault) = Err fault

-- the line is this exchange: its request, its reply, and when that came
pub record IsExchange (line : List ℕ) (e : Exchange) : Type 0 where
  pub messages : (request : Result Timestamp IcmpFault) × (reply : Result Timestamp IcmpFault) ×
      IsRecord line (record { name = e.name; request = request; reply = reply; arrival = e.arrival })
      × (expected false request ≡ Ok e.request) × (expected true reply ≡ Ok e.reply)

-- the word of a fault
abbrev pub icmp_fault_word : IcmpFault → List ℕ
icmp_fault_word Length = codes "length"
icmp_fault_word Kind = codes "kind"
icmp_fault_word Code = codes "code"
icmp_fault_word Checksum = codes "checksum"

-- why a line is refused: it isn't four such words; else its request is faulty; else its reply
abbrev pub RefusesRecord : List ℕ → List ℕ → Type 0
RefusesRecord line cause =
    (((r : Record) → IsRecord line r → ⊥) × (cause ≡ codes "record"))
    ⊎ (((r : Record) × (fault : IcmpFault) × IsRecord line r × (expected false r.request ≡ Err fault) × (cause ≡ codes "request " ++ icmp_fault_word fault))
    ⊎ ((r : Record) × (t : Timestamp) × (fault : IcmpFault) × IsRecord line r × (expected false r.request ≡ Ok t) × (expected true r.reply ≡ Err fault) ×
    (cause ≡ codes "reply " ++ icmp_fault_word fault)))
