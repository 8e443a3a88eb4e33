-- The answer to an input, and what an outcome says of it.
use Rattle.std.specs.Prelude.{◌≡◌, ℕ, ◌<◌, List, ◌++◌, length, All, Some}
use Rattle.std.specs.declared.option.Option.{Option}
use Rattle.tsp_io.specs.Streams.{Grows}
use Rattle.tsp_lines.specs.{Lines.NoFeed, Meanings.Meaning, Outcomes.IsBad, Outcomes.IsLimited, Outcomes.IsDone}
use Rattle.tsp_lines.specs.declared.treat.Outcome.{Outcome}
use Rattle.tsp_lines.specs.declared.treat.Outcome.TheVariants.{Ok as Done, Bad, ReadFault, WriteFault, Limit, OutOfMemory}

-- after these lines the treatment ends with this outcome and these words, if no read and no write fails and there is memory
abbrev pub IsEnding : Meaning → ℕ → Option (List ℕ) → List (List ℕ) → Outcome → List ℕ → Type 0
IsEnding m limit input lines Done said = IsDone m limit input lines said
IsEnding m limit input lines Bad said = IsBad m limit input lines said
IsEnding m limit input lines ReadFault said = ⊥
IsEnding m limit input lines WriteFault said = ⊥
IsEnding m limit input lines Limit said = IsLimited m limit input lines said
IsEnding m limit input lines OutOfMemory said = ⊥

-- the answer to these octets as an input: the outcome and the whole output, if no read and no write fails and there is memory
pub record IsAnswer (m : Meaning) (limit : ℕ) (octets : List ℕ) (outcome : Outcome) (output : List ℕ) : Type 0 where
  -- the lines that are accepted
  pub lines : List (List ℕ)
  -- their output
  pub text : List ℕ
  -- what is written after it
  pub said : List ℕ
  pub feedless : All NoFeed lines
  pub accepted : m.accepts lines text
  pub ending : IsEnding m limit (Some octets) lines outcome said
  pub whole : output ≡ text ++ said

-- what was written is the beginning of an output, and these octets are the rest of it
abbrev pub IsPart : List ℕ → Option (List ℕ) → Option (List ℕ) → List ℕ → Type 0
IsPart output written now rest = (part : List ℕ) × (output ≡ part ++ rest) × Grows written now part

-- what an outcome says, given the answer's output and outcome: the outcomes are equal and the output was written, or its beginning was, which after a failed
-- write isn't the whole
abbrev pub Agrees : Outcome → List ℕ → Option (List ℕ) → Option (List ℕ) → Outcome → Type 0
Agrees outcome output written now Done = (outcome ≡ Done) × Grows written now output
Agrees outcome output written now Bad = (outcome ≡ Bad) × Grows written now output
Agrees outcome output written now ReadFault = (rest : List ℕ) × IsPart output written now rest
Agrees outcome output written now WriteFault = (rest : List ℕ) × (0 < length rest) × IsPart output written now rest
Agrees outcome output written now Limit = (outcome ≡ Limit) × Grows written now output
Agrees outcome output written now OutOfMemory = (rest : List ℕ) × IsPart output written now rest

-- an outcome agrees with the answer to the input, if the input is known
abbrev pub Answers : Meaning → ℕ → Option (List ℕ) → Option (List ℕ) → Option (List ℕ) → Outcome → Type 0
Answers m limit input written now result = (octets : List ℕ) (outcome : Outcome) (output : List ℕ) → input ≡ Some octets →
    IsAnswer m limit octets outcome output → Agrees outcome output written now result
