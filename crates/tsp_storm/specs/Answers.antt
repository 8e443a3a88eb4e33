-- What a storm comes to.
use Rattle.std.specs.Prelude.{◌≡◌, ◌⊎◌, ℕ, ◌<◌, ◌+◌, List, ◌++◌, length, Option, Some}
use Rattle.tsp_base.specs.declared.event.EventFault.{EventFault, TheVariants.Limit as NoRoom}
use Rattle.tsp_io.specs.Streams.{Grows}
use Rattle.tsp_lines.specs.Outcomes.{limit_line}
use Rattle.tsp_storm.specs.declared.run.StormEnd.TheVariants.{Done, Limit, WriteFault, OutOfMemory}
use Rattle.tsp_storm.specs.declared.making.Stopped.TheVariants.{Limit as NoRoomFor, OutOfMemory as NoMemory}
use Rattle.tsp_storm.specs.declared.summary.Summary.{Summary}
use Rattle.tsp_storm.specs.{Kept.KeptOutright, Schedules.header_of, Schedules.storm_events, Schedules.event_after}
use Rattle.tsp_storm.specs.{Summaries.summary, Summaries.summary_text, declared.making.Stopped.Stopped, declared.run.StormEnd.StormEnd}
use Rattle.tsp_args.specs.declared.storm.StormWords.{StormWords}
use Rattle.tsp_run.specs.Refusals.{Valid, scene, refusal}

-- there is no room for an event
abbrev pub IsLimit : Option EventFault → Type 0
IsLimit cause = (events : ℕ) × (posted : ℕ) × (cause ≡ Some (NoRoom events posted))

-- why the event after so many is refused, if it is
abbrev pub refused_after : StormWords → ℕ → Option EventFault
refused_after s n = refusal (scene (header_of s) (storm_events s n)) (event_after s n)

-- the event after so many is the first that is refused, and there is no room for it
pub record StopsAfter (s : StormWords) (n : ℕ) : Type 0 where
  pub within : n < s.events
  pub valid : Valid (header_of s) (storm_events s n)
  pub limit : IsLimit (refused_after s n)

-- how a storm ends and what it writes, if no write fails and there is memory: the summary of the run of its whole schedule, which keeps the promises, or the
-- number of the event for which there is no room
abbrev pub IsStormAnswer : StormWords → StormEnd → List ℕ → Type 0
IsStormAnswer s Done text = Valid (header_of s) (storm_events s s.events) × KeptOutright (header_of s) (storm_events s s.events) ×
    (text ≡ summary (header_of s) (storm_events s s.events))
IsStormAnswer s Limit text = (n : ℕ) × StopsAfter s n × (text ≡ limit_line (n + 1))
IsStormAnswer s WriteFault text = ⊥
IsStormAnswer s OutOfMemory text = ⊥

-- what was written is a part of a text, which goes on with these octets
abbrev pub IsTextPart : List ℕ → Option (List ℕ) → Option (List ℕ) → List ℕ → Type 0
IsTextPart text written now rest = (part : List ℕ) × (text ≡ part ++ rest) × Grows written now part

-- what was written is a part of the answer that isn't the whole
abbrev pub WritesTextPart : StormWords → Option (List ℕ) → Option (List ℕ) → Type 0
WritesTextPart s written now = (end : StormEnd) × (text : List ℕ) × (rest : List ℕ) × IsStormAnswer s end text × (0 < length rest) ×
    IsTextPart text written now rest

-- how a storm ended: with its answer written whole; or with a part of it; or without memory before there was an answer, and then nothing was written
abbrev pub StormsAs : StormWords → Option (List ℕ) → Option (List ℕ) → StormEnd → Type 0
StormsAs s written now Done = (text : List ℕ) × IsStormAnswer s Done text × Grows written now text
StormsAs s written now Limit = (text : List ℕ) × IsStormAnswer s Limit text × Grows written now text
StormsAs s written now WriteFault = WritesTextPart s written now
StormsAs s written now OutOfMemory = (now ≡ written) ⊎ WritesTextPart s written now

-- an end agrees with the answer to the words: it is this end and its text was written, or a part of the text was
abbrev pub AgreesWithAnswer : StormEnd → List ℕ → Option (List ℕ) → Option (List ℕ) → StormEnd → Type 0
AgreesWithAnswer end text written now Done = (end ≡ Done) × Grows written now text
AgreesWithAnswer end text written now Limit = (end ≡ Limit) × Grows written now text
AgreesWithAnswer end text written now WriteFault = (rest : List ℕ) × (0 < length rest) × IsTextPart text written now rest
AgreesWithAnswer end text written now OutOfMemory = (rest : List ℕ) × (0 < length rest) × IsTextPart text written now rest

-- no event of the schedule lacks room
abbrev pub HasEventRoom : StormWords → Type 0
HasEventRoom s = (n : ℕ) → n < s.events → ¬ IsLimit (refused_after s n)

-- this is the summary of the run of the whole schedule, of which no event is refused and which keeps the promises
abbrev pub SumsUp : StormWords → Summary → Type 0
SumsUp s t =
    Valid (header_of s) (storm_events s s.events)
    × KeptOutright (header_of s) (storm_events s s.events)
    × (summary_text t.events t.posted t.counts.took t.counts.corrects t.counts.masters ≡ summary (header_of s) (storm_events s s.events))

-- why the whole schedule didn't happen
abbrev pub HaltsStorm : StormWords → Stopped → Type 0
HaltsStorm s (NoRoomFor number) = (n : ℕ) × StopsAfter s n × (number ≡ n + 1)
HaltsStorm s NoMemory = Unit {0}

-- what is said where a text was to be written and then this end given: all of it was, or a part that isn't the whole
abbrev pub SaysText : List ℕ → StormEnd → Option (List ℕ) → Option (List ℕ) → StormEnd → Type 0
SaysText text end written now answer =
    ((answer ≡ end) × Grows written now text)
    ⊎ (((answer ≡ WriteFault) ⊎ (answer ≡ OutOfMemory)) × ((rest : List ℕ) × (0 < length rest) × IsTextPart text written now rest))
