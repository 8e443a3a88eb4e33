-- Numbers in octets, in network order.
use Rattle.std.specs.Prelude.{ℕ, ◌+◌, List, [], ◌∷◌, slice_index_or}
use Rattle.std.specs.Int.{w16, w32, w64, from_be_bytes}

-- the octet at a place; 0 past the end
abbrev pub octet_at : List ℕ → ℕ → ℕ
octet_at octets i = slice_index_or octets i 0

-- the number of two octets
abbrev pub be16_at : List ℕ → ℕ → ℕ
be16_at o i = from_be_bytes w16 (octet_at o i ∷ octet_at o (i + 1) ∷ [])

-- the number of four octets
abbrev pub be32_at : List ℕ → ℕ → ℕ
be32_at o i = from_be_bytes w32 (octet_at o i ∷ octet_at o (i + 1) ∷ octet_at o (i + 2) ∷ octet_at o (i + 3) ∷ [])

-- the number of eight octets
abbrev pub be64_at : List ℕ → ℕ → ℕ
be64_at o i = from_be_bytes w64 (octet_at o i ∷ octet_at o (i + 1) ∷ octet_at o (i + 2) ∷ octet_at o (i + 3) ∷ octet_at o (i + 4) ∷ octet_at o (i + 5) ∷
    octet_at o (i + 6) ∷ octet_at o (i + 7) ∷ [])
