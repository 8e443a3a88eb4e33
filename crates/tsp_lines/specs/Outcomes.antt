-- How the treatment of a whole input ends.
use Rattle.std.specs.Prelude.{◌≡◌, ℕ, ◌<◌, ◌≤◌, ◌+◌, ◌⊎◌, List, [], ◌∷◌, ◌++◌, length, codes, All}
use Rattle.std.specs.{Fmt.decimal, declared.option.Option.Option}
use Rattle.tsp_io.specs.Streams.{Gives, Grows}
use Rattle.tsp_lines.specs.Lines.{NoFeed, closed, IsOver, IsWhole, HasLines, HasNext, HasMore, IsPast}
use Rattle.tsp_lines.specs.{Meanings.Meaning, declared.treat.Outcome.Outcome}
use Rattle.tsp_lines.specs.declared.treat.Outcome.TheVariants.{Ok as Done, Bad, ReadFault, WriteFault, Limit, OutOfMemory}

-- the words of a refused line: its number, from 1 on, and the cause
abbrev pub bad_line : ℕ → List ℕ → List ℕ
bad_line number cause = (((codes "bad " ++ decimal number) ++ 32 ∷ []) ++ cause) ++ 10 ∷ []

-- the words of a line past a limit: its number, from 1 on
abbrev pub limit_line : ℕ → List ℕ
limit_line number = (codes "limit " ++ decimal number) ++ 10 ∷ []

-- after these lines the input is refused with these words: for its next line, or since it ends there
abbrev pub IsBad : Meaning → ℕ → Option (List ℕ) → List (List ℕ) → List ℕ → Type 0
IsBad m limit input lines said =
    ((line : List ℕ) × (cause : List ℕ) × HasNext limit input lines line × (¬ m.full lines) × m.refuses lines line cause ×
    (said ≡ bad_line (length lines + 1) cause))
    ⊎ ((cause : List ℕ) × IsWhole limit input lines × m.lacks lines cause × (said ≡ bad_line (length lines + 1) cause))

-- after these lines a limit is passed, with these words: by the next line, by an octet in it, or since no further line is allowed
abbrev pub IsLimited : Meaning → ℕ → Option (List ℕ) → List (List ℕ) → List ℕ → Type 0
IsLimited m limit input lines said =
    (((line : List ℕ) × HasNext limit input lines line × m.limits lines line) ⊎ (IsPast limit input lines ⊎ (m.full lines × HasMore limit input lines))) ×
    (said ≡ limit_line (length lines + 1))

-- the input is these lines and may end after them, with these octets as the output of its end
abbrev pub IsDone : Meaning → ℕ → Option (List ℕ) → List (List ℕ) → List ℕ → Type 0
IsDone m limit input lines said = IsWhole limit input lines × m.ends lines said

-- the input has these lines, and nothing more is written
abbrev pub WritesNoMore : ℕ → Option (List ℕ) → List (List ℕ) → List ℕ → Type 0
WritesNoMore limit input lines said = HasLines limit input lines × (said ≡ [])

-- what may be written after the output of these lines
abbrev pub Follows : Meaning → ℕ → Option (List ℕ) → List (List ℕ) → List ℕ → Type 0
Follows m limit input lines said = WritesNoMore limit input lines said ⊎ (IsBad m limit input lines said ⊎
    (IsLimited m limit input lines said ⊎ IsDone m limit input lines said))

-- these lines were accepted, and what was written is their output and then what follows it
abbrev pub WritesAll : Meaning → (List (List ℕ) → List ℕ → Type 0) → Option (List ℕ) → Option (List ℕ) → Type 0
WritesAll m FollowsIt written now = (lines : List (List ℕ)) × (text : List ℕ) × (said : List ℕ) × All NoFeed lines × m.accepts lines text ×
    FollowsIt lines said × Grows written now (text ++ said)

-- what was written is the beginning of what is to be written, and these octets are the rest of it
abbrev pub WritesPart : Meaning → ℕ → Option (List ℕ) → Option (List ℕ) → Option (List ℕ) → List ℕ → Type 0
WritesPart m limit input written now rest = (lines : List (List ℕ)) × (text : List ℕ) × (said : List ℕ) × (part : List ℕ) × All NoFeed lines ×
    m.accepts lines text × Follows m limit input lines said × (text ++ said ≡ part ++ rest) × Grows written now part

-- exactly the lines whose line feed was read were accepted, and exactly their output was written; no octet past the limit was read
abbrev pub WritesGot : Meaning → ℕ → Option (List ℕ) → Option (List ℕ) → Option (List ℕ) → Option (List ℕ) → Type 0
WritesGot m limit input left written now =
    (lines : List (List ℕ)) × (text : List ℕ) × (part : List ℕ) × All NoFeed lines × m.accepts lines text × NoFeed part ×
    (length (closed lines ++ part) ≤ limit) × (m.full lines → part ≡ [])
    × Gives input left (closed lines ++ part) × Grows written now text

-- what an outcome says of the input, of what is left of it, and of what was written
abbrev pub Comes : Meaning → ℕ → Option (List ℕ) → Option (List ℕ) → Option (List ℕ) → Option (List ℕ) → Outcome → Type 0
Comes m limit input left written now Done = WritesAll m (IsDone m limit input) written now × IsOver left
Comes m limit input left written now Bad = WritesAll m (IsBad m limit input) written now
Comes m limit input left written now ReadFault = WritesGot m limit input left written now
Comes m limit input left written now WriteFault = (rest : List ℕ) × (0 < length rest) × WritesPart m limit input written now rest
Comes m limit input left written now Limit = WritesAll m (IsLimited m limit input) written now
Comes m limit input left written now OutOfMemory = (rest : List ℕ) × WritesPart m limit input written now rest

-- output keeps up with input: but for the last 64 KiB at most, from the beginning of a line on, all lines that were read were accepted and their output was
-- written; at most one octet past the limit was read
abbrev pub KeepsUp : Meaning → ℕ → Option (List ℕ) → Option (List ℕ) → Option (List ℕ) → Option (List ℕ) → Type 0
KeepsUp m limit input left written now =
    (lines : List (List ℕ)) × (text : List ℕ) × (part : List ℕ) × (last : List ℕ) × (more : List ℕ) × All NoFeed lines × m.accepts lines text × NoFeed part ×
    (length last ≤ 65536)
    × (length ((closed lines ++ part) ++ last) ≤ limit + 1) × Gives input left ((closed lines ++ part) ++ last) × Grows written now (text ++ more)
