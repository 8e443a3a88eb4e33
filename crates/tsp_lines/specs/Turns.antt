-- A treatment of lines under way: how far it is, and how it ends.
use Rattle.std.specs.Prelude.{◌≡◌, ℕ, ◌<◌, ◌≤◌, ◌+◌, ◌-◌, ◌⊎◌, Bool, true, false, List, [], ◌∷◌, ◌++◌, length, All, Ok, Err}
use Rattle.std.specs.declared.{option.Option.Option, result.Result.Result}
use Rattle.tsp_io.specs.{Streams.Gives, declared.sink.Sink.Ghosts as SinkOf, declared.source.Source.Ghosts as SourceOf}
use Rattle.tsp_lines.specs.{Lines.NoFeed, Lines.closed, Meanings.Meaning, Meanings.Breaks, Outputs.Hands, Readings.ReaderValue}
use Rattle.tsp_lines.specs.Outcomes.{bad_line, limit_line, Comes, KeepsUp}
use Rattle.tsp_lines.specs.declared.output.Unwritten.{Unwritten, TheVariants.WriteFault as NotWritten, TheVariants.OutOfMemory as NoMemory}
use Rattle.tsp_lines.specs.declared.treatment.Stop.TheVariants.{Bad as Refused, Limit as Limited, WriteFault as Unwrote, OutOfMemory as Unheld}
use Rattle.tsp_lines.specs.declared.{treat.Outcome.Outcome, treatment.Stop.Stop}
use Rattle.tsp_lines.specs.declared.treat.Outcome.TheVariants.{Ok as Done, Bad, ReadFault, WriteFault, Limit, OutOfMemory}

-- what may be written at a line of the input, or at its end
pub record Sayings : Type 1 where
  -- where its end is accepted
  pub done : List ℕ → Type 0
  -- where it is refused
  pub bad : List ℕ → Type 0
  -- where a limit is passed
  pub limited : List ℕ → Type 0
  -- where it goes on
  pub more : List ℕ → Type 0

-- one of them
abbrev pub IsSaying : Sayings → List ℕ → Type 0
IsSaying s words = s.done words ⊎ (s.bad words ⊎ (s.limited words ⊎ s.more words))

-- these words alone, of a refusal
abbrev pub only_bad : List ℕ → Sayings
only_bad words = record { done = λ w. ⊥; bad = λ w. w ≡ words; limited = λ w. ⊥; more = λ w. ⊥ }

-- these words alone, of a limit
abbrev pub only_limited : List ℕ → Sayings
only_limited words = record { done = λ w. ⊥; bad = λ w. ⊥; limited = λ w. w ≡ words; more = λ w. ⊥ }

-- these words alone, of a refusal or of a limit
abbrev pub only_so : Outcome → List ℕ → Sayings
only_so Done words = only_bad words
only_so Bad words = only_bad words
only_so ReadFault words = only_bad words
only_so WriteFault words = only_bad words
only_so Limit words = only_limited words
only_so OutOfMemory words = only_bad words

-- what may be written at a line
abbrev pub line_sayings : Meaning → List (List ℕ) → List ℕ → ℕ → List ℕ → Sayings
line_sayings m lines text number line = record {
  done = λ w. ⊥;
  bad = λ w. (cause : List ℕ) × m.refuses lines line cause × (w ≡ bad_line number cause);
  limited = λ w. m.limits lines line × (w ≡ limit_line number);
  more = λ w. m.accepts (lines ++ line ∷ []) (text ++ w);
}

-- what may be written at the input's end
abbrev pub end_sayings : Meaning → List (List ℕ) → ℕ → Sayings
end_sayings m lines number = record {
  done = m.ends lines;
  bad = λ w. (cause : List ℕ) × m.lacks lines cause × (w ≡ bad_line number cause);
  limited = λ w. ⊥;
  more = λ w. ⊥;
}

-- how it ends: one of these was written whole, or the beginning of it, and the rest is held
abbrev pub Ends : Sayings → Option (List ℕ) → List ℕ → Option (List ℕ) → Outcome → Type 0
Ends s written held now Done = (said : List ℕ) × s.done said × Hands written held now [] said
Ends s written held now Bad = (said : List ℕ) × s.bad said × Hands written held now [] said
Ends s written held now ReadFault = ⊥
Ends s written held now WriteFault = (keeps : List ℕ) × (0 < length keeps) × Breaks (IsSaying s) written held now keeps
Ends s written held now Limit = (said : List ℕ) × s.limited said × Hands written held now [] said
Ends s written held now OutOfMemory = (keeps : List ℕ) × Breaks (IsSaying s) written held now keeps

-- how it ends where the treatment stops
abbrev pub Stopped : ℕ → Option (List ℕ) → List ℕ → Option (List ℕ) → List ℕ → Stop → Outcome → Type 0
Stopped number written held now keeps (Refused cause) outcome = Ends (only_bad (bad_line number cause)) written held now outcome
Stopped number written held now keeps Limited outcome = Ends (only_limited (limit_line number)) written held now outcome
Stopped number written held now keeps Unwrote outcome = (outcome ≡ WriteFault) × (now ≡ written) × (keeps ≡ held)
Stopped number written held now keeps Unheld outcome = (outcome ≡ OutOfMemory) × (now ≡ written) × (keeps ≡ held)

-- how far a treatment is: these lines were read and accepted, and this is their output
pub record IsAt (m : Meaning) (Stands : List (List ℕ) → Type 0) (input left written now : Option (List ℕ)) (reader : ReaderValue) (held : List ℕ) (number : ℕ)
    (lines : List (List ℕ)) (text : List ℕ) : Type 0 where
  pub feedless : All NoFeed lines
  pub accepted : m.accepts lines text
  pub stands : Stands lines
  pub got : (octets : List ℕ) × Gives input left octets × (octets ≡ closed lines ++ reader.held) × (reader.got ≡ length octets)
  pub within : reader.got ≤ reader.limit + length reader.held
  pub handed : Hands written [] now held text
  pub counted : number ≡ length lines + 1

-- it stands for these lines, and another one is allowed
abbrev pub StandsOpen : Meaning → (List (List ℕ) → Type 0) → List (List ℕ) → Type 0
StandsOpen m Stands lines = Stands lines × (¬ m.full lines)

-- a turn goes on: the source isn't at its end, less is left to read, and no count of faults rose; source, sink and reader are each given before and after it
pub record StaysOpen {S K : Type 0} (sources : SourceOf S) (sinks : SinkOf K) (source source_now : S) (sink sink_now : K) (reader reader_now : ReaderValue)
    (number_now : ℕ) : Type 0 where
  pub unended : sources.ended source_now ≡ false
  pub counted : number_now + length reader_now.held ≤ reader_now.got + 1
  pub smaller : reader_now.limit + 1 - reader_now.got + length reader_now.held < reader.limit + 1 - reader.got + length reader.held
  pub limit : reader_now.limit ≡ reader.limit
  pub unread : sources.faults source_now ≡ sources.faults source
  pub written : sinks.faults sink_now ≡ sinks.faults sink

-- how it ends where output isn't written
abbrev pub outcome_of : Unwritten → Outcome
outcome_of NotWritten = WriteFault
outcome_of NoMemory = OutOfMemory

-- what came of the first line that is held: the treatment is so far behind it, or so far in front of it and nothing has changed, or it ends
abbrev pub TriesHeld : Meaning → (List (List ℕ) → Type 0) → Option (List ℕ) → Option (List ℕ) → Option (List ℕ) → Option (List ℕ) → ReaderValue → List ℕ → ℕ →
    List (List ℕ) → List ℕ → Result Bool Unwritten → Type 0
TriesHeld m Stands input left written now reader held number lines text (Ok true) = (more : List (List ℕ)) × (longer : List ℕ) ×
    IsAt m Stands input left written now reader held number more longer
TriesHeld m Stands input left written now reader held number lines text (Ok false) =
    IsAt m (StandsOpen m Stands) input left written now reader held number lines text
TriesHeld m Stands input left written now reader held number lines text (Err fault) = Comes m reader.limit input left written now (outcome_of fault)

-- wherever the treatment is, output that kept up with input before a call keeps up with it after that: what is left of the input and what was written, each
-- before and after
abbrev pub StillKeepsUp : Meaning → (List (List ℕ) → Type 0) → ReaderValue → List ℕ → ℕ → Option (List ℕ) → Option (List ℕ) → Option (List ℕ) →
    Option (List ℕ) → Type 0
StillKeepsUp m Stands reader held number left left_now now now_after =
    (input written : Option (List ℕ)) (lines : List (List ℕ)) (text : List ℕ) → IsAt m Stands input left written now reader held number lines text →
    KeepsUp m reader.limit input left written now
    → KeepsUp m reader.limit input left_now written now_after
