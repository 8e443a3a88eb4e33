-- A text is one schedule's.
use Rattle.std.proofs.Common.{◌≡◌, ℕ, List, reverse}
use Rattle.tsp_base.specs.{Words.HeaderValue, declared.event.Event.Event}
use Rattle.tsp_schedule.{proofs.OneReading.Reaches_one, specs.Schedules.Ended}
use Rattle.tsp_lines.proofs.OneCut.{AreLines_one}
use Rattle.tsp_replay.specs.{Meaning.IsSchedule, Schedules.refused}

-- a text is one schedule's
pub IsSchedule_one : (octets : List ℕ) (header other : HeaderValue) (events others : List Event) → IsSchedule octets header events →
    IsSchedule octets other others → (header ≡ other) × (events ≡ others)
IsSchedule_one octets header other events others (lines, n, a, r) (ls, m, b, s) =
    let same = AreLines_one octets ls lines m n b a in
    let p = Reaches_one refused (reverse lines) (Ended header events) (Ended other others) r (rw same at s) in
    (cc, cc)
