-- So all followers are in their master's table, for ever.
use Rattle.std.specs.Prelude.{◌≡◌, ◌≤◌, ◌<◌, ℕ, ◌+◌, Bool, true, List}
use Rattle.tsp_rules.specs.Values.{Event, SLACK}
use Rattle.tsp_base.specs.Words.{HeaderValue, Line, Within, dids, time_of}
use Rattle.tsp_promises.specs.{Premises.Honest, Premises.Life, Setting.Setting}
use Rattle.tsp_run.specs.Clocked.{Clocks, PossibleBy, SetByClocks, run_by}
use Rattle.tsp_run.specs.{Possible.Possible, Run.run, Setting.SetBy}
use Rattle.tsp_progress.specs.{Delivered.Delivered, FollowOn.Calm, FollowOn.FollowUntil, InTable.InTable, OneWire.OneWire}
use Rattle.tsp_progress.specs.{ReportsSoon.reported_after, StaysIn.InRange, StaysIn.IsBrief, StaysIn.over_after}
use Rattle.tsp_progress.specs.{Watched.Attended, Watched.Told}

-- when all have reported, and what began before is over: 282 s and twice `long`
abbrev pub settled_table_after : ℕ → ℕ
settled_table_after long = over_after + reported_after long

-- from each place later than that on, all that stay are in c's table, as long as all follow c
abbrev pub SettlesTable : ℕ → ℕ → (ℕ → Bool) → ℕ → List Line → List Line → Type 0
SettlesTable long t stays c s world = (g : List Line) → Within s g → Within g world → time_of (dids s) + settled_table_after long < time_of (dids g) →
    InTable stays c t g world

-- in such a run
abbrev pub RunsSettleTable : Type 0
RunsSettleTable = (header : HeaderValue) (setting : Setting) (events : List Event) (late long t : ℕ) (stays : ℕ → Bool) (c : ℕ) (s : List Line) →
    SetBy header setting → Possible header events → Attended late (run header events) → late ≤ SLACK → Told late setting t c (run header events) →
    stays c ≡ true → OneWire header setting stays → Within s (run header events) → Calm long stays s (run header events) →
    Delivered setting long t stays s (run header events) → IsBrief setting long → Honest (run header events) → Life (run header events) →
    InRange header long c s (run header events) → FollowUntil stays c t s (run header events) →
    SettlesTable long t stays c s (run header events)

-- by any clocks
abbrev pub ClockedRunsSettleTable : Type 0
ClockedRunsSettleTable =
    (clocks : Clocks) (header : HeaderValue) (setting : Setting) (events : List Event) (late long t : ℕ) (stays : ℕ → Bool) (c : ℕ) (s : List Line) →
    SetByClocks clocks header setting → PossibleBy clocks header events → Attended late (run_by clocks header events) → late ≤ SLACK →
    Told late setting t c (run_by clocks header events) → stays c ≡ true → OneWire header setting stays → Within s (run_by clocks header events) →
    Calm long stays s (run_by clocks header events) → Delivered setting long t stays s (run_by clocks header events) → IsBrief setting long →
    Honest (run_by clocks header events) → Life (run_by clocks header events) → InRange header long c s (run_by clocks header events) →
    FollowUntil stays c t s (run_by clocks header events) →
    SettlesTable long t stays c s (run_by clocks header events)
