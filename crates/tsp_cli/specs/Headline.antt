-- What a replay that ends with status 0 has read and written, and what any other has, up to where it ended.
use Rattle.std.specs.Prelude.{◌≡◌, ◌⊎◌, ◌<◌, ◌+◌, ℕ, List, [], ◌++◌, length, reverse, Option, All}
use Rattle.tsp_rules.specs.Values.{Event}
use Rattle.tsp_base.specs.Words.{HeaderValue}
use Rattle.tsp_promises.specs.Setting.{Setting}
use Rattle.tsp_io.specs.Streams.{Grows}
use Rattle.tsp_lines.specs.Lines.{HasLines, IsInput, IsOver, NoFeed}
use Rattle.tsp_lines.specs.{Outcomes.bad_line, Outcomes.limit_line, declared.limits.TheConstants.MOST_INPUT}
use Rattle.tsp_replay.specs.{Meaning.IsSchedule, Schedules.Reaches, Traces.trace}
use Rattle.tsp_schedule.specs.Schedules.{Progress, Running, Ended}
use Rattle.tsp_cli.specs.declared.status.Status.{Status}
use Rattle.tsp_cli.specs.declared.status.Status.TheVariants.{Ok, Bad, ReadFault, WriteFault, Limit, OutOfMemory}
use Rattle.tsp_run.specs.{Premised.KeptByText, Promises.Promises, Ranges.Accepted, Run.run, Setting.SetBy}

-- the input was the text of a schedule, all of it was read, its header and events are in their ranges, and none of its
-- events is refused. What was written is exactly the trace of its run. The run's history keeps the promises, each under
-- its premises; and a premise that holds of the text holds of the history
abbrev pub PrintsHistory : Option (List ℕ) → Option (List ℕ) → Option (List ℕ) → Option (List ℕ) → Type 0
PrintsHistory input left written now =
    (header : HeaderValue) × (events : List Event) × (octets : List ℕ) × IsInput MOST_INPUT input octets × IsSchedule octets header events ×
    Accepted header events × IsOver left × Grows written now (trace header events)
    × ((setting : Setting) → SetBy header setting → Promises setting (run header events)) × KeptByText header events

-- a header and events that are accepted, and whose history keeps the promises, each under its premises; and a premise
-- that holds of the text holds of the history
abbrev pub KeepsPromises : HeaderValue → List Event → Type 0
KeepsPromises header events = Accepted header events × ((setting : Setting) → SetBy header setting → Promises setting (run header events)) ×
    KeptByText header events

-- the trace of the lines of a schedule that have come so far: nothing, as long as they are of its header; later the
-- trace of their run, which keeps the promises
abbrev pub TellsSoFar : Progress → List ℕ → Type 0
TellsSoFar (Running header events) text = KeepsPromises header events × (text ≡ trace header events)
TellsSoFar (Ended header events) text = KeepsPromises header events × (text ≡ trace header events)
TellsSoFar _ text = text ≡ []

-- what may come after the trace of these lines: nothing, or one line: that the next line of the input is bad, for some
-- cause, or passes a limit
abbrev pub IsLastLine : List (List ℕ) → List ℕ → Type 0
IsLastLine lines said = (said ≡ []) ⊎ (((cause : List ℕ) × (said ≡ bad_line (length lines + 1) cause)) ⊎ (said ≡ limit_line (length lines + 1)))

-- of this trace and the line after it the beginning was written; these octets of them were not
abbrev pub WritesOnly : List (List ℕ) → List ℕ → Option (List ℕ) → Option (List ℕ) → List ℕ → Type 0
WritesOnly lines text written now rest = (said : List ℕ) × (part : List ℕ) × IsLastLine lines said × (text ++ said ≡ part ++ rest) × Grows written now part

-- how much of this trace and of the line after it was written, by the status; a replay ends with no other status
abbrev pub WritesSoFar : Status → List (List ℕ) → List ℕ → Option (List ℕ) → Option (List ℕ) → Type 0
WritesSoFar Ok lines text written now = Grows written now text
WritesSoFar Bad lines text written now = (cause : List ℕ) × Grows written now (text ++ bad_line (length lines + 1) cause)
WritesSoFar ReadFault lines text written now = Grows written now text
WritesSoFar WriteFault lines text written now = (rest : List ℕ) × (0 < length rest) × WritesOnly lines text written now rest
WritesSoFar Limit lines text written now = Grows written now (text ++ limit_line (length lines + 1))
WritesSoFar OutOfMemory lines text written now = (rest : List ℕ) × WritesOnly lines text written now rest
WritesSoFar _ lines text written now = ⊥

-- the input begins with lines that were accepted as those of a schedule. What was written is their trace and at most
-- one line after it, or the beginning of these, as the status says
abbrev pub PrintsSoFar : Option (List ℕ) → Option (List ℕ) → Option (List ℕ) → Status → Type 0
PrintsSoFar input written now status =
    (lines : List (List ℕ)) × (p : Progress) × (text : List ℕ) × All NoFeed lines × HasLines MOST_INPUT input lines × Reaches (reverse lines) p ×
    TellsSoFar p text × WritesSoFar status lines text written now
