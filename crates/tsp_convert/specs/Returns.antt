-- Hexadecimal lines that `pack` gives back after `show`.
use Rattle.std.specs.Prelude.{◌≡◌, ℕ, List}
use Rattle.hex.specs.Hex.{encode_lower}
use Rattle.tsp_base.specs.declared.datagram.Datagram.{Datagram}
use Rattle.tsp_codec.specs.Canon.{canon}
use Rattle.tsp_convert.specs.Shows.{IsHexLineOf}

-- the line is a datagram's octets as they are written, in lower case
abbrev pub IsWritten : List ℕ → Type 0
IsWritten line = (d : Datagram) × IsHexLineOf line d × (line ≡ encode_lower (canon d))
