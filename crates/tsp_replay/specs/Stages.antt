-- What a stage of the replay stands for, and the lines that it gives.
use Rattle.std.specs.Prelude.{◌≡◌, ℕ, if◌then◌else◌, List, [], ◌++◌, Option}
use Rattle.tsp_base.specs.{Words.HeaderValue, declared.event.Event.Event}
use Rattle.tsp_schedule.specs.declared.stage.Stage.TheVariants.{Untitled as AtUntitled, Titled as AtTitled, Drifted as AtDrifted, Heading as AtHeading}
use Rattle.tsp_schedule.specs.declared.stage.Stage.TheVariants.{Running as AtRunning}
use Rattle.tsp_schedule.specs.{Stages.StageHolds as StandsBy, declared.run.Run.Run, declared.stage.Stage.Stage}
use Rattle.tsp_lines.specs.{Outputs.Hands, declared.treatment.Stop.Stop}
use Rattle.tsp_lines.specs.declared.treatment.Stop.TheVariants.{Bad, Limit, WriteFault, OutOfMemory}
use Rattle.tsp_replay.specs.{Schedules.refused, declared.replayed.Replayed.Replayed}
use Rattle.tsp_run.specs.declared.line.Line.{Line}
use Rattle.tsp_world.specs.WorldStands.{WorldStands}

-- a world stands for a header and events
abbrev pub stands : HeaderValue → List Event → Replayed → Type 0
stands header events replayed = WorldStands header events replayed.world

-- the stage stands for these lines, however they are read
abbrev pub ReplayStands : Stage Replayed → List (List ℕ) → Type 0
ReplayStands stage lines = StandsBy refused stands stage lines

-- the lines of the last event's acts; none where the last line was read
abbrev pub told_by : Run Replayed → List Line
told_by run = if run.over then [] else run.handler.world.lines.items

abbrev pub told_at : Stage Replayed → List Line
told_at AtUntitled = []
told_at (AtTitled version) = []
told_at (AtDrifted header) = []
told_at (AtHeading header) = []
told_at (AtRunning run) = told_by run

-- only the beginning of an output was handed over
abbrev pub HandsBeginning : List ℕ → Option (List ℕ) → List ℕ → Option (List ℕ) → List ℕ → Stop → Type 0
HandsBeginning all written held now keeps (Bad cause) = ⊥
HandsBeginning all written held now keeps Limit = ⊥
HandsBeginning all written held now keeps WriteFault = (part : List ℕ) × (rest : List ℕ) × (all ≡ part ++ rest) × Hands written held now keeps part
HandsBeginning all written held now keeps OutOfMemory = (part : List ℕ) × (rest : List ℕ) × (all ≡ part ++ rest) × Hands written held now keeps part
