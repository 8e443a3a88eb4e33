-- In a network that follows its master, each follower is in the master's table again and again.
use Rattle.std.specs.Prelude.{◌≡◌, ◌≤◌, ◌<◌, ℕ, ◌+◌, ◌*◌, ◌==◌, Bool, true, false, List}
use Rattle.tsp_rules.specs.Values.{Event, ROUND, SLACK}
use Rattle.tsp_base.specs.Words.{HeaderValue, Line, Within, dids, first_port, in_table, of, peer_of, time_of, view}
use Rattle.tsp_promises.specs.{Setting.Setting}
use Rattle.tsp_run.specs.Clocked.{Clocks, PossibleBy, SetByClocks, run_by}
use Rattle.tsp_run.specs.{Possible.Possible, Run.run, Setting.SetBy}
use Rattle.tsp_progress.specs.{Delivered.Delivered, FollowOn.FollowUntil, FollowOn.OneNetwork, Watched.Attended, Watched.Told}

-- whether node n is in node c's table of slaves, at a place of the history
abbrev pub is_slave_of : ℕ → ℕ → List Line → Bool
is_slave_of c n h = in_table (peer_of n) (view first_port (of c h))

-- after the place s, and between these true times, there is a place where node n is in node c's table
pub record InTableBetween (from by c n : ℕ) (s world : List Line) : Type 0 where
  pub at : List Line
  pub place : Within at world
  pub since : Within s at
  pub later : from < time_of (dids at)
  pub soon : time_of (dids at) ≤ by
  pub member : is_slave_of c n at ≡ true

-- the longest time until a master has called a follower, and has its report: 242 s, and twice `long`
abbrev pub reported_after : ℕ → ℕ
reported_after long = ROUND + 2 * SLACK + 2 * long

-- each follower of c that stays is in c's table within that time of each true time x after the place s, as long as all follow
abbrev pub ReportsSoon : ℕ → ℕ → (ℕ → Bool) → ℕ → List Line → List Line → Type 0
ReportsSoon long t stays c s world = (n x : ℕ) → stays n ≡ true → (n == c) ≡ false → time_of (dids s) ≤ x → x + reported_after long < t →
    InTableBetween x (x + reported_after long) c n s world

-- in a possible run in which each node is looked at within SLACK, and datagrams are delivered in time
abbrev pub RunsReport : Type 0
RunsReport = (header : HeaderValue) (setting : Setting) (events : List Event) (late long t : ℕ) (stays : ℕ → Bool) (c : ℕ) (s : List Line) →
    SetBy header setting → Possible header events → Attended late (run header events) → late ≤ SLACK → Told late setting t c (run header events) →
    OneNetwork header setting stays c → Delivered setting long t stays s (run header events) → Within s (run header events) →
    FollowUntil stays c t s (run header events) → ReportsSoon long t stays c s (run header events)

-- by any clocks
abbrev pub ClockedRunsReport : Type 0
ClockedRunsReport =
    (clocks : Clocks) (header : HeaderValue) (setting : Setting) (events : List Event) (late long t : ℕ) (stays : ℕ → Bool) (c : ℕ) (s : List Line) →
    SetByClocks clocks header setting → PossibleBy clocks header events → Attended late (run_by clocks header events) → late ≤ SLACK →
    Told late setting t c (run_by clocks header events) → OneNetwork header setting stays c → Delivered setting long t stays s (run_by clocks header events) →
    Within s (run_by clocks header events) → FollowUntil stays c t s (run_by clocks header events) →
    ReportsSoon long t stays c s (run_by clocks header events)
