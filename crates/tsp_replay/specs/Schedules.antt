-- Schedules whose events a world handles: how far one is after some lines, and why a line is refused.
use Rattle.std.specs.Prelude.{ℕ, List, Option}
use Rattle.tsp_base.specs.{Words.HeaderValue, declared.event.Event.Event, declared.event.EventFault.EventFault}
use Rattle.tsp_schedule.specs.Schedules.{Progress, Reaches as ReachesBy, Refuses as RefusesBy, Limits as LimitsBy}
use Rattle.tsp_run.specs.Refusals.{scene, refusal}

-- the cause, if there is one, for which a world refuses an event after these, the newest first
abbrev pub refused : HeaderValue → List Event → Event → Option EventFault
refused header events e = refusal (scene header events) e

-- after these lines, the newest first, a schedule is so far
abbrev pub Reaches : List (List ℕ) → Progress → Type 0
Reaches lines p = ReachesBy refused lines p

-- a line is refused for this cause
abbrev pub Refuses : Progress → List ℕ → List ℕ → Type 0
Refuses p line cause = RefusesBy refused p line cause

-- a line passes a limit
abbrev pub Limits : Progress → List ℕ → Type 0
Limits p line = LimitsBy refused p line
