-- In a calm network that follows its master all clocks agree from some time on.
use Rattle.std.specs.Prelude.{◌≡◌, ◌≤◌, ◌<◌, ℕ, ◌+◌, pos, ℤ, Bool, true, List, Some}
use Rattle.tsp_rules.specs.Values.{Close, Event, PeerId, SLACK, WINDOW}
use Rattle.tsp_rules.specs.RoundRows.{is_near}
use Rattle.tsp_base.specs.Words.{Acts, Estimate, HeaderValue, Line, Within, dids, estimate, of, time_of, view}
use Rattle.tsp_promises.specs.{ClockAt.ClocksWithin, Fits.node_of, Premises.Honest, Premises.Life, Setting.Setting}
use Rattle.tsp_run.specs.Clocked.{Clocks, PossibleBy, SetByClocks, run_by}
use Rattle.tsp_run.specs.{Possible.Possible, Run.run, Setting.SetBy}
use Rattle.tsp_progress.specs.{AgreesMeanwhile.agree_meanwhile, AgreesMeanwhile.agreed_long_after, AgreesOn.HistoryAt, Delivered.Delivered}
use Rattle.tsp_progress.specs.{FollowOn.AfterPlace, FollowOn.Calm, FollowOn.FollowUntil, InTable.GivesUpNone, OneWire.OneWire, SettlesTable.settled_table_after}
use Rattle.tsp_progress.specs.{StaysIn.InRange, StaysIn.IsBrief, Watched.Attended, Watched.Told}

-- when node c closes a round after the place s, no clock that it measured is FAR (34 years) or more away
abbrev pub NoneFar : ℕ → List Line → List Line → Type 0
NoneFar c s world = AfterPlace s world (λ l older. node_of l ≡ c → (count : ℕ) (lo size mean : ℤ) → l.did.deed ≡ Acts (Close count lo size mean) →
    (p : PeerId) (best : Estimate) → estimate p (view l.port (of (node_of l) older)) ≡ Some best → is_near best.diff ≡ true)

-- how long all must have followed: 1,015 s and three times `long`; by then all are in the table, and three rounds have closed
abbrev pub agreed_from_after : ℕ → ℕ
agreed_from_after long = settled_table_after long + WINDOW + agreed_long_after long

-- at each true time from then on the clocks of any two nodes that stay differ by at most this
abbrev pub AgreesFrom : Setting → ℕ → ℕ → ℕ → (ℕ → Bool) → List Line → List Line → Type 0
AgreesFrom setting late long t stays s world = (x : ℕ) (h : List Line) → HistoryAt x h world → time_of (dids s) + agreed_from_after long ≤ x →
    x + long < t → (n m : ℕ) → stays n ≡ true → stays m ≡ true → ClocksWithin setting h x n m (pos (agree_meanwhile setting late long))

-- in a possible run that is calm after the place s, of nodes with one port each on one network that follow node c, which gives up no round, and measures
-- no clock 34 years away; each node is looked at within SLACK, datagrams are delivered within less than a second, none is forged or older than 30 s, and no
-- clock comes near the end of its range
abbrev pub RunsAgreeFrom : Type 0
RunsAgreeFrom = (header : HeaderValue) (setting : Setting) (events : List Event) (late long t : ℕ) (stays : ℕ → Bool) (c : ℕ) (s : List Line) →
    SetBy header setting → Possible header events → Attended late (run header events) → late ≤ SLACK → Told late setting t c (run header events) →
    OneWire header setting stays → stays c ≡ true → Within s (run header events) → Calm long stays s (run header events) →
    Delivered setting long t stays s (run header events) → IsBrief setting long → Honest (run header events) → Life (run header events) →
    InRange header long c s (run header events) → FollowUntil stays c t s (run header events) → NoneFar c s (run header events) →
    GivesUpNone c s (run header events) → AgreesFrom setting late long t stays s (run header events)

-- by any clocks
abbrev pub ClockedRunsAgreeFrom : Type 0
ClockedRunsAgreeFrom =
    (clocks : Clocks) (header : HeaderValue) (setting : Setting) (events : List Event) (late long t : ℕ) (stays : ℕ → Bool) (c : ℕ) (s : List Line) →
    SetByClocks clocks header setting → PossibleBy clocks header events → Attended late (run_by clocks header events) → late ≤ SLACK →
    Told late setting t c (run_by clocks header events) → OneWire header setting stays → stays c ≡ true → Within s (run_by clocks header events) →
    Calm long stays s (run_by clocks header events) → Delivered setting long t stays s (run_by clocks header events) → IsBrief setting long →
    Honest (run_by clocks header events) → Life (run_by clocks header events) → InRange header long c s (run_by clocks header events) →
    FollowUntil stays c t s (run_by clocks header events) → NoneFar c s (run_by clocks header events) → GivesUpNone c s (run_by clocks header events) →
    AgreesFrom setting late long t stays s (run_by clocks header events)
