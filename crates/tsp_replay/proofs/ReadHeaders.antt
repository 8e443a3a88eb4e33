-- The header of lines that are a schedule's keeps its ranges.
use Rattle.std.proofs.Common.{ℕ, List, reverse}
use Rattle.tsp_base.specs.{Words.HeaderValue, Words.IsHeader, declared.event.Event.Event}
use Rattle.tsp_schedule.{proofs.ReadHeaders.Reaches_header, specs.Schedules.Ended}
use Rattle.tsp_replay.specs.{Meaning.IsSchedule, Schedules.refused}

pub IsSchedule_header : (octets : List ℕ) (header : HeaderValue) (events : List Event) → IsSchedule octets header events → IsHeader header
IsSchedule_header octets header events (lines, n, a, r) = Reaches_header refused (reverse lines) (Ended header events) r
