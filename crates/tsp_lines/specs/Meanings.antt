-- What lines mean to a command, and what the calls of its treatment answer.
use Rattle.std.specs.Prelude.{◌≡◌, ℕ, ◌⊎◌, List, [], ◌∷◌, ◌++◌, None, Some}
use Rattle.std.specs.declared.option.Option.{Option}
use Rattle.tsp_lines.specs.{Lines.IsFront, Outputs.Hands, declared.output.Unwritten.Unwritten, declared.treatment.Stop.Stop}
use Rattle.tsp_lines.specs.declared.output.Unwritten.TheVariants.{WriteFault as NotWritten, OutOfMemory as NoMemory}
use Rattle.tsp_lines.specs.declared.treatment.Stop.TheVariants.{Bad, Limit, WriteFault, OutOfMemory}

-- why a treatment stops where octets weren't written
abbrev pub stop_of : Unwritten → Stop
stop_of NotWritten = WriteFault
stop_of NoMemory = OutOfMemory

-- what lists of lines mean to a command
pub record Meaning : Type 1 where
  -- these lines are accepted, each after those before it, and this is their output
  pub accepts : List (List ℕ) → List ℕ → Type 0
  -- after these lines this line is refused, with this cause
  pub refuses : List (List ℕ) → List ℕ → List ℕ → Type 0
  -- after these lines this line is past a limit of the command's own
  pub limits : List (List ℕ) → List ℕ → Type 0
  -- after these lines any line is past a limit of the command's own, from its first octet on
  pub full : List (List ℕ) → Type 0
  -- the input may end after these lines, and this is then the output of its end
  pub ends : List (List ℕ) → List ℕ → Type 0
  -- the input may not end after these lines, with this cause
  pub lacks : List (List ℕ) → List ℕ → Type 0

-- the line is accepted and its output handed over; the treatment stands for one line more
abbrev pub Goes : Meaning → (List (List ℕ) → Type 0) → List (List ℕ) → List ℕ → List ℕ → Option (List ℕ) → List ℕ → Option (List ℕ) → List ℕ → Type 0
Goes m Stands lines text line written held now keeps = (more : List ℕ) × Hands written held now keeps more × m.accepts (lines ++ line ∷ []) (text ++ more) ×
    Stands (lines ++ line ∷ [])

-- nothing was handed over, or the beginning of an output of this kind
abbrev pub Breaks : (List ℕ → Type 0) → Option (List ℕ) → List ℕ → Option (List ℕ) → List ℕ → Type 0
Breaks IsWhole written held now keeps = (part : List ℕ) × Hands written held now keeps part × ((part ≡ []) ⊎ ((rest : List ℕ) × IsWhole (part ++ rest)))

-- what came of octets of which the first line was tried: it went so, with so many octets, or nothing has changed
abbrev pub Tried : Meaning → (List (List ℕ) → Type 0) → List (List ℕ) → List ℕ → List ℕ → Option (List ℕ) → List ℕ → Option (List ℕ) → List ℕ → Option ℕ →
    Type 0
Tried m Stands lines text octets written held now keeps (Some count) = (line : List ℕ) × IsFront octets count line ×
    Goes m Stands lines text line written held now keeps
Tried m Stands lines text octets written held now keeps None = Stands lines × (now ≡ written) × (keeps ≡ held)

-- the first line of octets is accepted, and only a part of its output was handed over
abbrev pub BreaksOff : Meaning → List (List ℕ) → List ℕ → List ℕ → Option (List ℕ) → List ℕ → Option (List ℕ) → List ℕ → Type 0
BreaksOff m lines text octets written held now keeps =
    (line : List ℕ) × (count : ℕ) × IsFront octets count line × Breaks (λ more. m.accepts (lines ++ line ∷ []) (text ++ more)) written held now keeps

-- why a line isn't accepted, or its output not handed over
abbrev pub StopsAt : Meaning → List (List ℕ) → List ℕ → List ℕ → Option (List ℕ) → List ℕ → Option (List ℕ) → List ℕ → Stop → Type 0
StopsAt m lines text line written held now keeps (Bad cause) = Hands written held now keeps [] × m.refuses lines line cause
StopsAt m lines text line written held now keeps Limit = Hands written held now keeps [] × m.limits lines line
StopsAt m lines text line written held now keeps WriteFault = Breaks (λ more. m.accepts (lines ++ line ∷ []) (text ++ more)) written held now keeps
StopsAt m lines text line written held now keeps OutOfMemory = Breaks (λ more. m.accepts (lines ++ line ∷ []) (text ++ more)) written held now keeps

-- the input may end, and the output of its end is handed over
abbrev pub Closes : Meaning → List (List ℕ) → Option (List ℕ) → List ℕ → Option (List ℕ) → List ℕ → Type 0
Closes m lines written held now keeps = (more : List ℕ) × Hands written held now keeps more × m.ends lines more

-- why the input may not end, or the output of its end isn't handed over; no limit is met there
abbrev pub StopsAtEnd : Meaning → List (List ℕ) → Option (List ℕ) → List ℕ → Option (List ℕ) → List ℕ → Stop → Type 0
StopsAtEnd m lines written held now keeps (Bad cause) = Hands written held now keeps [] × m.lacks lines cause
StopsAtEnd m lines written held now keeps Limit = ⊥
StopsAtEnd m lines written held now keeps WriteFault = Breaks (m.ends lines) written held now keeps
StopsAtEnd m lines written held now keeps OutOfMemory = Breaks (m.ends lines) written held now keeps
