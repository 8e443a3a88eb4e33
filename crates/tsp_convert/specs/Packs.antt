-- What lines mean to `pack`.
use Rattle.std.specs.Prelude.{◌≡◌, ℕ, List, [], map, codes}
use Rattle.std.specs.List.{All, AllZip}
use Rattle.hex.specs.Hex.{encode_lower}
use Rattle.tsp_base.specs.declared.datagram.Datagram.{Datagram}
use Rattle.tsp_codec.specs.Canon.{canon}
use Rattle.tsp_lines.specs.{Lines.NoFeed, Lines.closed, Lines.AreLines, Meanings.Meaning}
use Rattle.tsp_script.specs.{Ranges.IsDatagram, Texts.message_text}

-- the line is the message line of this datagram, which is in its ranges
abbrev pub IsLineOf : List ℕ → Datagram → Type 0
IsLineOf line d = IsDatagram d × (line ≡ message_text d)

-- the line isn't a datagram's message line
abbrev pub RefusesMessage : List ℕ → List ℕ → Type 0
RefusesMessage line cause = ((d : Datagram) → IsLineOf line d → ⊥) × (cause ≡ codes "message")

-- the written octets of these datagrams in hexadecimal, in lower case and each with its line feed
abbrev pub packed : List Datagram → List ℕ
packed datagrams = closed (map (λ d. encode_lower (canon d)) datagrams)

-- what lines mean to `pack`: each is a datagram's message line, and the output is the datagrams' octets
abbrev pub pack_meaning : Meaning
pack_meaning = record {
  accepts = λ lines text. (datagrams : List Datagram) × AllZip IsLineOf lines datagrams × (text ≡ packed datagrams);
  refuses = λ lines line cause. RefusesMessage line cause;
  limits = λ lines line. ⊥;
  full = λ lines. ⊥;
  ends = λ lines more. more ≡ [];
  lacks = λ lines cause. ⊥;
}

-- octets are message lines, each that of a datagram
abbrev pub AreMessageLines : List ℕ → Type 0
AreMessageLines octets = (lines : List (List ℕ)) × (datagrams : List Datagram) × All NoFeed lines × AreLines octets lines × AllZip IsLineOf lines datagrams
