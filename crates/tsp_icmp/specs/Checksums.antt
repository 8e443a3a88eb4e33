-- The checksum of Internet messages (RFC 1071).
use Rattle.std.specs.Prelude.{ℕ, ◌+◌, ◌-◌, ◌*◌, ◌/◌, ◌%◌, List, [], ◌∷◌}
use Rattle.std.specs.List.{fold}

-- the one's complement sum of two words of 16 bits: the carry out of the highest bit is added at the lowest
abbrev pub ones_sum : ℕ → ℕ → ℕ
ones_sum a b = (a + b) % 65536 + (a + b) / 65536

-- the words of 16 bits, in network order, of an even number of octets
abbrev pub words : List ℕ → List ℕ
words [] = []
words (x ∷ []) = []
words (high ∷ low ∷ rest) = (256 * high + low) ∷ words rest

-- the one's complement of the one's complement sum of the words
abbrev pub checksum : List ℕ → ℕ
checksum octets = 65535 - fold ones_sum 0 (words octets)
