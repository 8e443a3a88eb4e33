-- In a calm network nobody sets the date: what was passed on before is over soon.
use Rattle.std.specs.Prelude.{◌<◌, ℕ, ◌+◌, ◌*◌, Bool, List}
use Rattle.tsp_rules.specs.Values.{Event, WINDOW}
use Rattle.tsp_base.specs.Words.{HeaderValue, Line, Within, dids, time_of}
use Rattle.tsp_promises.specs.{Setting.Setting}
use Rattle.tsp_run.specs.Clocked.{Clocks, PossibleBy, SetByClocks, run_by}
use Rattle.tsp_run.specs.{Possible.Possible, Run.run, Setting.SetBy}
use Rattle.tsp_progress.specs.{FollowOn.Calm, InTable.Undated}

-- 10 s and `long`
abbrev pub undated_after : ℕ → ℕ
undated_after long = 2 * WINDOW + long

-- from each place later than that after the place s no node takes a date
abbrev pub NoneDates : ℕ → List Line → List Line → Type 0
NoneDates long s world = (c : ℕ) (g : List Line) → Within s g → time_of (dids s) + undated_after long < time_of (dids g) → Undated c g world

-- in a possible run that is calm after the place s
abbrev pub RunsTakeNoDate : Type 0
RunsTakeNoDate = (header : HeaderValue) (setting : Setting) (events : List Event) (long : ℕ) (stays : ℕ → Bool) (s : List Line) → SetBy header setting →
    Possible header events → Within s (run header events) → Calm long stays s (run header events) → NoneDates long s (run header events)

-- by any clocks
abbrev pub ClockedRunsTakeNoDate : Type 0
ClockedRunsTakeNoDate = (clocks : Clocks) (header : HeaderValue) (setting : Setting) (events : List Event) (long : ℕ) (stays : ℕ → Bool) (s : List Line) →
    SetByClocks clocks header setting → PossibleBy clocks header events → Within s (run_by clocks header events) →
    Calm long stays s (run_by clocks header events) → NoneDates long s (run_by clocks header events)
