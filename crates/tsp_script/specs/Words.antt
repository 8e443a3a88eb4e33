-- Words of a line, separated by single spaces, and parts of a word.
use Rattle.std.specs.Prelude.{◌≡◌, ℕ, ◌+◌, ◌<◌, List, [], ◌∷◌, ◌==◌, if◌then◌else◌}

-- what is before the first octet of this value: all where there is none
abbrev pub before_mark : ℕ → List ℕ → List ℕ
before_mark m [] = []
before_mark m (c ∷ cs) = if c == m then [] else c ∷ before_mark m cs

-- what is after it: nothing where there is none
abbrev pub after_mark : ℕ → List ℕ → List ℕ
after_mark m [] = []
after_mark m (c ∷ cs) = if c == m then cs else after_mark m cs

-- what is before the first space
abbrev pub first_word : List ℕ → List ℕ
first_word line = before_mark 32 line

-- what is after the first space
abbrev pub after_word : List ℕ → List ℕ
after_word line = after_mark 32 line

-- no digit stands first
abbrev pub NoDigit : List ℕ → Type 0
NoDigit octets = (digit : ℕ) (rest : List ℕ) → digit < 10 → octets ≡ (48 + digit) ∷ rest → ⊥
