-- Numbers in octets, the lowest octet first.
use Rattle.std.specs.Prelude.{ℕ, ◌+◌, List, [], ◌∷◌, ◌++◌, slice_index_or}
use Rattle.std.specs.Int.{w64, to_le_bytes, from_le_bytes}

-- the octet at a place; 0 past the end
abbrev pub octet_at : List ℕ → ℕ → ℕ
octet_at octets i = slice_index_or octets i 0

-- the number of eight octets
unfoldable pub number_at : List ℕ → ℕ → ℕ
number_at o i = from_le_bytes w64 (octet_at o i ∷ octet_at o (i + 1) ∷ octet_at o (i + 2) ∷ octet_at o (i + 3)
    ∷ octet_at o (i + 4) ∷ octet_at o (i + 5) ∷ octet_at o (i + 6) ∷ octet_at o (i + 7) ∷ [])

-- numbers one after the other, eight octets each
unfoldable pub octets_of_all : List ℕ → List ℕ
octets_of_all [] = []
octets_of_all (n ∷ ns) = to_le_bytes w64 n ++ octets_of_all ns
