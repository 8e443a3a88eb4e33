-- The error of a reading whose datagrams took at most `long`.
use Rattle.std.specs.Prelude.{◌≤ℤ◌, ℕ, ◌+◌, ◌*◌, ◌/◌, ℤ, pos, List, ◌∷◌}
use Rattle.tsp_rules.specs.Values.{Event}
use Rattle.tsp_base.specs.Words.{HeaderValue, Line, Within}
use Rattle.tsp_promises.specs.{Agreed.FromRound, Premises.Honest, Premises.Life, Premises.TakenWithinAt, Setting.Setting}
use Rattle.tsp_run.specs.Clocked.{Clocks, PossibleBy, SetByClocks, run_by}
use Rattle.tsp_run.specs.{Possible.Possible, Run.run, Setting.SetBy}
use Rattle.tsp_progress.specs.FollowOn.{AfterPlace}

-- half of what two ways of at most `long` take by a clock that keeps the drift, rounded up
abbrev pub soon_err : Setting → ℕ → ℕ
soon_err setting long = (2 * long + (setting.drift * (2 * long) + 999999) / 1000000 + 1) / 2

-- a correction that rests on a reading after the place s has an error of at most that
abbrev pub ErrsSoon : Setting → ℕ → List Line → List Line → Type 0
ErrsSoon setting long s world = (m : ℕ) (close : Line) (before : List Line) (c : Line) (past : List Line) (r : Line) (older : List Line) (err : ℤ) →
    Within (c ∷ past) world → FromRound m close before c past r older err → Within s older → err ≤ℤ pos (soon_err setting long)

-- in a possible run in which nothing is taken after the place s that was posted more than `long` before
abbrev pub RunsErrSoon : Type 0
RunsErrSoon = (header : HeaderValue) (setting : Setting) (events : List Event) (long : ℕ) (s : List Line) → SetBy header setting → Possible header events →
    Honest (run header events) → Life (run header events) → AfterPlace s (run header events) (λ l older. TakenWithinAt long l older) →
    ErrsSoon setting long s (run header events)

-- by any clocks
abbrev pub ClockedRunsErrSoon : Type 0
ClockedRunsErrSoon = (clocks : Clocks) (header : HeaderValue) (setting : Setting) (events : List Event) (long : ℕ) (s : List Line) →
    SetByClocks clocks header setting → PossibleBy clocks header events → Honest (run_by clocks header events) → Life (run_by clocks header events) →
    AfterPlace s (run_by clocks header events) (λ l older. TakenWithinAt long l older) → ErrsSoon setting long s (run_by clocks header events)
