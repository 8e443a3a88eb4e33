-- Eight octets that are read at once.
use Rattle.std.specs.Prelude.{ℕ, ◌+◌, ◌*◌, List, slice_index_or}

-- eight octets as one word, the first of them the lowest
abbrev pub octets_word : ℕ → ℕ → ℕ → ℕ → ℕ → ℕ → ℕ → ℕ → ℕ
octets_word a b c d e f g h = ((((((h * 256 + g) * 256 + f) * 256 + e) * 256 + d) * 256 + c) * 256 + b) * 256 + a

-- the first eight of some octets as one word
abbrev pub word_at : List ℕ → ℕ
word_at octets = octets_word (slice_index_or octets 0 0) (slice_index_or octets 1 0) (slice_index_or octets 2 0) (slice_index_or octets 3 0)
    (slice_index_or octets 4 0) (slice_index_or octets 5 0) (slice_index_or octets 6 0) (slice_index_or octets 7 0)

-- the number that these eight digits make
abbrev pub eight_value : ℕ → ℕ → ℕ → ℕ → ℕ → ℕ → ℕ → ℕ → ℕ
eight_value a b c d e f g h = ((((((a * 10 + b) * 10 + c) * 10 + d) * 10 + e) * 10 + f) * 10 + g) * 10 + h
