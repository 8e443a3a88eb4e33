-- What comes of an input that is read whole first.
use Rattle.std.specs.Prelude.{◌≡◌, ℕ, ◌<◌, ◌≤◌, ◌+◌, ◌⊎◌, List, [], ◌++◌, length, Bool, true, false, Ok, Err}
use Rattle.std.specs.declared.{option.Option.Option, result.Result.Result}
use Rattle.tsp_io.specs.Streams.{Gives}
use Rattle.tsp_lines.specs.{Lines.IsOver, Meanings.Meaning, Outcomes.Comes, declared.gather.Added.Added, declared.treat.Outcome.Outcome}
use Rattle.tsp_lines.specs.declared.gather.Ungathered.TheVariants.{ReadFault as NotRead, OutOfMemory as NoMemory}
use Rattle.tsp_lines.specs.declared.gather.{Added.TheVariants.More, Added.TheVariants.End, Added.TheVariants.Fault, Ungathered.Ungathered}
use Rattle.tsp_lines.specs.declared.gathered.Gathered.{Gathered}
use Rattle.tsp_lines.specs.declared.treat.Outcome.TheVariants.{Ok as Done, Bad, ReadFault, WriteFault, Limit, OutOfMemory}

-- what one read adds to the octets that were read: at most this many, or none at the input's end; if out of memory, the octets are lost
abbrev pub Adds : ℕ → Option (List ℕ) → Option (List ℕ) → Bool → List ℕ → List ℕ → Added → Type 0
Adds most left rest ended octets now More = (ended ≡ false) × ((more : List ℕ) × Gives left rest more × (0 < length more) × (length more ≤ most) ×
    (now ≡ octets ++ more))
Adds most left rest ended octets now End = (ended ≡ true) × IsOver rest × Gives left rest [] × (now ≡ octets)
Adds most left rest ended octets now (Fault NotRead) = (ended ≡ false) × (rest ≡ left)
Adds most left rest ended octets now (Fault NoMemory) = Unit {0}

-- these octets were read of the input: all, and then its end, or those up to the first one past the limit
abbrev pub Gathers : ℕ → Option (List ℕ) → Option (List ℕ) → Bool → List ℕ → Type 0
Gathers limit input left ended octets = Gives input left octets × (((length octets ≤ limit) × IsOver left × (ended ≡ true)) ⊎
    ((length octets ≡ limit + 1) × (ended ≡ false)))

-- the same of octets in memory, none of which was given yet
abbrev pub GathersAs : ℕ → Option (List ℕ) → Option (List ℕ) → Bool → Gathered → Type 0
GathersAs limit input left ended g = Gathers limit input left ended g.octets.items × (g.at ≡ 0) × (g.ended ≡ false)

-- octets of the input were read, none past the limit
abbrev pub ReadsPart : ℕ → Option (List ℕ) → Option (List ℕ) → Type 0
ReadsPart limit input left = (octets : List ℕ) × Gives input left octets × (length octets ≤ limit)

-- what comes of reading an input whole: its octets, or where a read failed a part of them
abbrev pub ReadsWhole : ℕ → Option (List ℕ) → Option (List ℕ) → Bool → Result Gathered Ungathered → Type 0
ReadsWhole limit input left ended (Ok g) = GathersAs limit input left ended g
ReadsWhole limit input left ended (Err NotRead) = ReadsPart limit input left × (ended ≡ false)
ReadsWhole limit input left ended (Err NoMemory) = Unit {0}

-- the input was read to its end, or up to the first octet past the limit
abbrev pub IsGathered : ℕ → Option (List ℕ) → Option (List ℕ) → Bool → Type 0
IsGathered limit input left ended = (octets : List ℕ) × Gathers limit input left ended octets

-- no octet past the limit was read, and nothing was written
abbrev pub WritesNone : ℕ → Option (List ℕ) → Option (List ℕ) → Option (List ℕ) → Option (List ℕ) → Type 0
WritesNone limit input left written now = ReadsPart limit input left × (now ≡ written)

-- what an outcome says of the input, of what is left of it, and of what was written: where a read failed, no line was treated
abbrev pub ComesGathered : Meaning → ℕ → Option (List ℕ) → Option (List ℕ) → Option (List ℕ) → Option (List ℕ) → Outcome → Type 0
ComesGathered m limit input left written now Done = Comes m limit input left written now Done
ComesGathered m limit input left written now Bad = Comes m limit input left written now Bad
ComesGathered m limit input left written now ReadFault = WritesNone limit input left written now
ComesGathered m limit input left written now WriteFault = Comes m limit input left written now WriteFault
ComesGathered m limit input left written now Limit = Comes m limit input left written now Limit
ComesGathered m limit input left written now OutOfMemory = Comes m limit input left written now OutOfMemory
