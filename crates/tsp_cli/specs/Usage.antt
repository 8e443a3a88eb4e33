-- What the program writes if its arguments are no command.
use Rattle.std.specs.Prelude.{◌≡◌, ℕ, List, [], ◌∷◌, codes, map, string_bytes}
use Rattle.std.specs.declared.string.String.{String}

-- the line that is written if the arguments are no command
abbrev pub usage_line : List ℕ
usage_line = codes "usage\n"

-- this is the only argument
abbrev pub IsAlone : {A : Type 0} → List (String A) → List ℕ → Type 0
IsAlone words word = map string_bytes words ≡ word ∷ []
