-- Each node in its master's table has a sample when a round closes.
use Rattle.std.specs.Prelude.{◌≡◌, ◌≤◌, ℕ, ◌==◌, Bool, true, false, List, is_some}
use Rattle.tsp_rules.specs.Values.{Event, SLACK}
use Rattle.tsp_base.specs.Words.{HeaderValue, Line, Within, estimate, is_measured, of, peer_of, view}
use Rattle.tsp_promises.specs.{Setting.Setting}
use Rattle.tsp_run.specs.Clocked.{Clocks, PossibleBy, SetByClocks, run_by}
use Rattle.tsp_run.specs.{Possible.Possible, Run.run, Setting.SetBy}
use Rattle.tsp_progress.specs.{Delivered.Delivered, FollowOn.Calm, FollowOn.FollowUntil, FollowOn.OneNetwork, InTable.InTable, InTable.KeepsRange}
use Rattle.tsp_progress.specs.{LateClose.LateClose, SampledInTime.IsSwift, Watched.Attended, Watched.Told}

-- node n is measured by the round that closes there, and has a sample
pub record HasSample (c n : ℕ) (close : Line) (past : List Line) : Type 0 where
  pub measured : is_measured (peer_of n) (view close.port (of c past)) ≡ true
  pub sampled : is_some (estimate (peer_of n) (view close.port (of c past))) ≡ true

-- so it is of each other node that stays, at each Close that comes late enough after the place s
abbrev pub MeasuresTable : ℕ → ℕ → (ℕ → Bool) → ℕ → List Line → List Line → Type 0
MeasuresTable long t stays c s world = (close : Line) (past : List Line) → LateClose long t c s close past world → (n : ℕ) → stays n ≡ true →
    (n == c) ≡ false → HasSample c n close past

-- in a possible run that is calm after the place s, and follows node c, which has all in its table; each node is looked at within SLACK, datagrams are
-- delivered in time, and clocks stay in their range
abbrev pub RunsMeasureTable : Type 0
RunsMeasureTable = (header : HeaderValue) (setting : Setting) (events : List Event) (late long t : ℕ) (stays : ℕ → Bool) (c : ℕ) (s : List Line) →
    SetBy header setting → Possible header events → Attended late (run header events) → late ≤ SLACK → Told late setting t c (run header events) →
    OneNetwork header setting stays c → Within s (run header events) → Calm long stays s (run header events) →
    Delivered setting long t stays s (run header events) → IsSwift setting long → FollowUntil stays c t s (run header events) →
    InTable stays c t s (run header events) → KeepsRange s (run header events) → MeasuresTable long t stays c s (run header events)

-- by any clocks
abbrev pub ClockedRunsMeasureTable : Type 0
ClockedRunsMeasureTable =
    (clocks : Clocks) (header : HeaderValue) (setting : Setting) (events : List Event) (late long t : ℕ) (stays : ℕ → Bool) (c : ℕ) (s : List Line) →
    SetByClocks clocks header setting → PossibleBy clocks header events → Attended late (run_by clocks header events) → late ≤ SLACK →
    Told late setting t c (run_by clocks header events) → OneNetwork header setting stays c → Within s (run_by clocks header events) →
    Calm long stays s (run_by clocks header events) → Delivered setting long t stays s (run_by clocks header events) → IsSwift setting long →
    FollowUntil stays c t s (run_by clocks header events) → InTable stays c t s (run_by clocks header events) →
    KeepsRange s (run_by clocks header events) → MeasuresTable long t stays c s (run_by clocks header events)
