-- What the treatment of a whole input says of its source and its sink.
use Rattle.std.specs.Prelude.{◌≡◌, ◌≢◌, ◌≤◌, ◌⊎◌, ℕ, List, length, Some, true, false}
use Rattle.tsp_io.specs.{Counts.Rose, declared.sink.Sink.Ghosts as SinkOf, declared.source.Source.Ghosts as SourceOf}
use Rattle.tsp_lines.specs.{Answers.Answers, Definite.IsDefinite, Gatherings.ComesGathered, Gatherings.IsGathered, Meanings.Meaning}
use Rattle.tsp_lines.specs.{Outcomes.Comes, Outcomes.KeepsUp, declared.treat.Outcome.Outcome}
use Rattle.tsp_lines.specs.declared.treat.Outcome.TheVariants.{Ok as Done, ReadFault, WriteFault, OutOfMemory}

-- how source and sink are left, each given before and after: no count of faults falls, `ReadFault` and `WriteFault` come only if that object's count rose, and
-- it is unchanged where they don't come
pub record Leaves {S K : Type 0} (sources : SourceOf S) (sinks : SinkOf K) (source source_now : S) (sink sink_now : K) (outcome : Outcome) : Type 0 where
  pub later : (sources.faults source ≤ sources.faults source_now) × (sinks.faults sink ≤ sinks.faults sink_now)
  pub read : outcome ≡ ReadFault → Rose (sources.faults source) (sources.faults source_now) × (sources.ended source_now ≡ false)
  pub write : outcome ≡ WriteFault → Rose (sinks.faults sink) (sinks.faults sink_now)
  pub still : (outcome ≢ ReadFault → sources.faults source_now ≡ sources.faults source) × (outcome ≢ WriteFault → sinks.faults sink_now ≡ sinks.faults sink)
  -- with `Ok` the source was read to its end
  pub ended : outcome ≡ Done → sources.ended source_now ≡ true

-- what comes of an input that is treated line by line
pub record Treats {S K : Type 0} (sources : SourceOf S) (sinks : SinkOf K) (m : Meaning) (limit : ℕ) (source source_now : S) (sink sink_now : K)
    (outcome : Outcome) : Type 0 where
  pub comes : Comes m limit (sources.left source) (sources.left source_now) (sinks.written sink) (sinks.written sink_now) outcome
  -- if an input has one answer, and this one is known, it agrees with its answer
  pub answers : IsDefinite m → Answers m limit (sources.left source) (sinks.written sink) (sinks.written sink_now) outcome
  pub keeps_up : KeepsUp m limit (sources.left source) (sources.left source_now) (sinks.written sink) (sinks.written sink_now)
  pub leaves : Leaves sources sinks source source_now sink sink_now outcome

-- what comes of an input that is read whole before a line is treated
pub record TreatsGathered {S K : Type 0} (sources : SourceOf S) (sinks : SinkOf K) (m : Meaning) (limit : ℕ) (source source_now : S) (sink sink_now : K)
    (outcome : Outcome) : Type 0 where
  pub comes : ComesGathered m limit (sources.left source) (sources.left source_now) (sinks.written sink) (sinks.written sink_now) outcome
  pub answers : IsDefinite m → Answers m limit (sources.left source) (sinks.written sink) (sinks.written sink_now) outcome
  -- it was read to its end, or to the first octet past the limit, unless a read failed or memory ran out
  pub gathered : outcome ≢ ReadFault → outcome ≢ OutOfMemory → IsGathered limit (sources.left source) (sources.left source_now) (sources.ended source_now)
  pub unwritten : outcome ≡ ReadFault → sink_now ≡ sink
  pub leaves : Leaves sources sinks source source_now sink sink_now outcome

-- where the whole input is known, keeps the limit and is one of these texts, and no count of faults rose, all of it was accepted, unless out of memory
abbrev pub Completes : {S K : Type 0} → SourceOf S → SinkOf K → (List ℕ → Type 0) → ℕ → S → S → K → K → Outcome → Type 0
Completes sources sinks IsText limit source source_now sink sink_now outcome =
    (octets : List ℕ) → sources.left source ≡ Some octets → length octets ≤ limit → IsText octets
    → ¬ Rose (sources.faults source) (sources.faults source_now) → ¬ Rose (sinks.faults sink) (sinks.faults sink_now) → (outcome ≡ Done) ⊎
    (outcome ≡ OutOfMemory)

-- what comes of a command of definite meaning, which accepts these texts
pub record Accepts {S K : Type 0} (sources : SourceOf S) (sinks : SinkOf K) (m : Meaning) (IsText : List ℕ → Type 0) (limit : ℕ) (source source_now : S)
    (sink sink_now : K) (outcome : Outcome) : Type 0 where
  pub comes : Comes m limit (sources.left source) (sources.left source_now) (sinks.written sink) (sinks.written sink_now) outcome
  pub answers : Answers m limit (sources.left source) (sinks.written sink) (sinks.written sink_now) outcome
  pub keeps_up : KeepsUp m limit (sources.left source) (sources.left source_now) (sinks.written sink) (sinks.written sink_now)
  pub leaves : Leaves sources sinks source source_now sink sink_now outcome
  pub complete : Completes sources sinks IsText limit source source_now sink sink_now outcome
