-- What lines mean to `show`.
use Rattle.std.specs.Prelude.{◌≡◌, ℕ, ◌<◌, ◌≤◌, ◌⊎◌, List, [], length, map, codes, Ok, IsErr}
use Rattle.std.specs.List.{All, AllZip}
use Rattle.hex.specs.Hex.{decode_of}
use Rattle.tsp_base.specs.declared.datagram.{Datagram.Datagram, DecodeFault.DecodeFault}
use Rattle.tsp_codec.specs.{Faults.IsFault, Spelling.Spells}
use Rattle.tsp_lines.specs.{Lines.NoFeed, Lines.closed, Lines.AreLines, Meanings.Meaning}
use Rattle.tsp_script.specs.{Texts.message_text, Traces.fault_word}

-- the line is these octets in hexadecimal, in either case of the letters
abbrev pub IsHex : List ℕ → List ℕ → Type 0
IsHex line octets = (length line ≤ 1024) × (decode_of line ≡ Ok octets)

-- the line has more than 1,024 octets, or isn't pairs of hexadecimal digits
abbrev pub IsNoHex : List ℕ → Type 0
IsNoHex line = (1024 < length line) ⊎ IsErr (decode_of line)

-- the line is octets of this datagram, in hexadecimal
abbrev pub IsHexLineOf : List ℕ → Datagram → Type 0
IsHexLineOf line d = (octets : List ℕ) × IsHex line octets × Spells octets d

-- the line isn't hexadecimal, or its octets aren't a datagram and this is the word of their first fault
abbrev pub RefusesHex : List ℕ → List ℕ → Type 0
RefusesHex line cause = (IsNoHex line × (cause ≡ codes "hex"))
    ⊎ ((octets : List ℕ) × (fault : DecodeFault) × IsHex line octets × IsFault octets fault × (cause ≡ fault_word fault))

-- the lines of these datagrams, each with its line feed
abbrev pub lines_shown : List Datagram → List ℕ
lines_shown datagrams = closed (map message_text datagrams)

-- what lines mean to `show`: each is a datagram's octets in hexadecimal, and the output is the datagrams' lines
abbrev pub show_meaning : Meaning
show_meaning = record {
  accepts = λ lines text. (datagrams : List Datagram) × AllZip IsHexLineOf lines datagrams × (text ≡ lines_shown datagrams);
  refuses = λ lines line cause. RefusesHex line cause;
  limits = λ lines line. ⊥;
  full = λ lines. ⊥;
  ends = λ lines more. more ≡ [];
  lacks = λ lines cause. ⊥;
}

-- octets are lines of hexadecimal, each a datagram
abbrev pub AreHexLines : List ℕ → Type 0
AreHexLines octets = (lines : List (List ℕ)) × (datagrams : List Datagram) × All NoFeed lines × AreLines octets lines × AllZip IsHexLineOf lines datagrams
