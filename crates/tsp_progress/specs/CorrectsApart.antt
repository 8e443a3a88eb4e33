-- In a calm network that follows its master, the corrections that the master begins to one follower begin at least a round's length apart.
use Rattle.std.specs.Prelude.{◌≡◌, ◌≤◌, ◌<◌, ℕ, ◌+◌, ◌*◌, ◌==◌, Bool, true, false, List}
use Rattle.tsp_rules.specs.Values.{Event, CLOSE, SLACK, WINDOW}
use Rattle.tsp_base.specs.Words.{HeaderValue, Line, MessageValue, Within, acting, dids, of, time_of, view}
use Rattle.tsp_promises.specs.{Premises.Honest, Premises.Life, Setting.Setting}
use Rattle.tsp_run.specs.Clocked.{Clocks, PossibleBy, SetByClocks, run_by}
use Rattle.tsp_run.specs.{Possible.Possible, Run.run, Setting.SetBy}
use Rattle.tsp_progress.specs.{Delivered.Delivered, FollowOn.AfterPlace, FollowOn.Calm, FollowOn.FollowUntil, OneWire.OneWire}
use Rattle.tsp_progress.specs.{StaysIn.InRange, StaysIn.IsBrief, StaysIn.PostsCorrection, Watched.Attended}

-- later than 15 s after the place s node c begins no two corrections to one node that stays within CLOSE ticks (8 s) of each other
abbrev pub CorrectsApart : ℕ → (ℕ → Bool) → ℕ → List Line → List Line → Type 0
CorrectsApart t stays c s world = AfterPlace s world (λ l older. l.did.step.at ≤ t → (n : ℕ) → stays n ≡ true → (n == c) ≡ false →
    (m k : MessageValue) (early : Line) (before : List Line) → PostsCorrection c n l older world m → PostsCorrection c n early before older k →
    time_of (dids s) + 3 * WINDOW < early.did.step.at → acting (view l.port (of c older)) ≡ true → acting (view early.port (of c before)) ≡ true →
    early.did.tick + CLOSE ≤ l.did.tick)

-- in a run as of StaysIn
abbrev pub RunsCorrectApart : Type 0
RunsCorrectApart = (header : HeaderValue) (setting : Setting) (events : List Event) (late long t : ℕ) (stays : ℕ → Bool) (c : ℕ) (s : List Line) →
    SetBy header setting → Possible header events → Attended late (run header events) → late ≤ SLACK → stays c ≡ true → OneWire header setting stays →
    Within s (run header events) → Calm long stays s (run header events) → Delivered setting long t stays s (run header events) → IsBrief setting long →
    Honest (run header events) → Life (run header events) → InRange header long c s (run header events) →
    FollowUntil stays c t s (run header events) → CorrectsApart t stays c s (run header events)

-- by any clocks
abbrev pub ClockedRunsCorrectApart : Type 0
ClockedRunsCorrectApart =
    (clocks : Clocks) (header : HeaderValue) (setting : Setting) (events : List Event) (late long t : ℕ) (stays : ℕ → Bool) (c : ℕ) (s : List Line) →
    SetByClocks clocks header setting → PossibleBy clocks header events → Attended late (run_by clocks header events) → late ≤ SLACK → stays c ≡ true →
    OneWire header setting stays → Within s (run_by clocks header events) → Calm long stays s (run_by clocks header events) →
    Delivered setting long t stays s (run_by clocks header events) → IsBrief setting long → Honest (run_by clocks header events) →
    Life (run_by clocks header events) → InRange header long c s (run_by clocks header events) →
    FollowUntil stays c t s (run_by clocks header events) → CorrectsApart t stays c s (run_by clocks header events)
