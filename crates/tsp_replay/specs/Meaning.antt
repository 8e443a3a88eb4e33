-- What lines mean to the replay of a schedule.
use Rattle.std.specs.Prelude.{◌≡◌, ℕ, List, [], reverse, All}
use Rattle.tsp_base.specs.{Words.HeaderValue, declared.event.Event.Event}
use Rattle.tsp_lines.specs.{Lines.NoFeed, Lines.AreLines, Meanings.Meaning}
use Rattle.tsp_schedule.specs.Schedules.{Progress, Ended, Lacks, IsEnded}
use Rattle.tsp_replay.specs.{Schedules.Reaches, Schedules.Refuses, Schedules.Limits, Traces.written_at}

-- octets are the text of a schedule: a header, events, the newest first, and the last line
abbrev pub IsSchedule : List ℕ → HeaderValue → List Event → Type 0
IsSchedule octets header events = (lines : List (List ℕ)) × All NoFeed lines × AreLines octets lines × Reaches (reverse lines) (Ended header events)

-- octets are the text of some schedule
abbrev pub IsScheduleText : List ℕ → Type 0
IsScheduleText octets = (header : HeaderValue) × (events : List Event) × IsSchedule octets header events

-- these lines are the beginning of a schedule, and this is the trace of its events
abbrev pub Replays : List (List ℕ) → List ℕ → Type 0
Replays lines text = (p : Progress) × Reaches (reverse lines) p × (text ≡ written_at p)

-- lines are accepted as the beginning of a schedule, and their output is its trace; the input may end where the last line is the schedule's last, however the
-- lines are read
abbrev pub replaying : Meaning
replaying = record {
  accepts = Replays;
  refuses = λ lines line cause. (p : Progress) × Reaches (reverse lines) p × Refuses p line cause;
  limits = λ lines line. (p : Progress) × Reaches (reverse lines) p × Limits p line;
  full = λ lines. ⊥;
  ends = λ lines more. ((p : Progress) → Reaches (reverse lines) p → IsEnded p) × (more ≡ []);
  lacks = λ lines cause. (p : Progress) × Reaches (reverse lines) p × Lacks p cause;
}
