-- From `long` after a Close on, until the next one, all clocks of the network agree.
use Rattle.std.specs.Prelude.{◌≡◌, ◌≤◌, ◌<◌, ℕ, ◌+◌, ◌*◌, ◌-◌, pos, Bool, true, List, ◌∷◌}
use Rattle.tsp_rules.specs.Values.{Event, SLACK}
use Rattle.tsp_base.specs.Words.{HeaderValue, Line, Within, dids, time_of, width}
use Rattle.tsp_promises.specs.{ClockAt.ClocksWithin, Premises.Honest, Premises.Life, Setting.Setting}
use Rattle.tsp_run.specs.Clocked.{Clocks, PossibleBy, SetByClocks, run_by}
use Rattle.tsp_run.specs.{Possible.Possible, Run.run, Setting.SetBy}
use Rattle.tsp_progress.specs.{Delivered.Delivered, ErrSoon.soon_err, FollowOn.Calm, FollowOn.FollowUntil, InTable.InTable, InTable.KeepsRange}
use Rattle.tsp_progress.specs.{InTable.SetsNone, InTable.Undated, LateClose.LateClose, OneWire.OneWire, SampledInTime.IsSwift, TakesRounds.NoneSince}
use Rattle.tsp_progress.specs.{Watched.Attended, Watched.Told}

-- h is what happened up to the true time x
pub record HistoryAt (x : ℕ) (h world : List Line) : Type 0 where
  pub within : Within h world
  pub upto : time_of (dids h) ≤ x
  pub all : (k : Line) (w : List Line) → Within (k ∷ w) world → k.did.step.at ≤ x → Within (k ∷ w) h

-- by how much two clocks differ so long after the Close of the last round: by the errors of two readings, and by what four counters drift since
abbrev pub agree_within : Setting → ℕ → ℕ → ℕ
agree_within setting long age = 2 * soon_err setting long + 4 * width setting.drift (age + 9009011)

-- at each true time from `long` after such a Close on, and as long as no other one came, the clocks of any two nodes that stay differ by at most that
abbrev pub AgreesUntilNext : Setting → ℕ → ℕ → (ℕ → Bool) → ℕ → List Line → List Line → Type 0
AgreesUntilNext setting long t stays c s world = (close : Line) (past : List Line) → LateClose long t c s close past world →
    close.did.step.at + long < t → (x : ℕ) (h : List Line) → HistoryAt x h world → close.did.step.at + long ≤ x → x ≤ t → NoneSince c close past h →
    (n m : ℕ) → stays n ≡ true → stays m ≡ true → ClocksWithin setting h x n m (pos (agree_within setting long (x - close.did.step.at)))

-- in a possible run that is calm after the place s, of nodes with one port each on one network that follow node c, which has all in its table, and posts no
-- SETTIME and takes no date; each node is looked at within SLACK, datagrams are delivered in time, none is forged or older than 30 s, and clocks stay in
-- their range
abbrev pub RunsAgreeUntilNext : Type 0
RunsAgreeUntilNext = (header : HeaderValue) (setting : Setting) (events : List Event) (late long t : ℕ) (stays : ℕ → Bool) (c : ℕ) (s : List Line) →
    SetBy header setting → Possible header events → Attended late (run header events) → late ≤ SLACK → Told late setting t c (run header events) →
    OneWire header setting stays → stays c ≡ true → Within s (run header events) → Calm long stays s (run header events) →
    Delivered setting long t stays s (run header events) → IsSwift setting long → Honest (run header events) → Life (run header events) →
    FollowUntil stays c t s (run header events) → InTable stays c t s (run header events) → SetsNone c s (run header events) →
    Undated c s (run header events) → KeepsRange s (run header events) → AgreesUntilNext setting long t stays c s (run header events)

-- by any clocks
abbrev pub ClockedRunsAgreeUntilNext : Type 0
ClockedRunsAgreeUntilNext =
    (clocks : Clocks) (header : HeaderValue) (setting : Setting) (events : List Event) (late long t : ℕ) (stays : ℕ → Bool) (c : ℕ) (s : List Line) →
    SetByClocks clocks header setting → PossibleBy clocks header events → Attended late (run_by clocks header events) → late ≤ SLACK →
    Told late setting t c (run_by clocks header events) → OneWire header setting stays → stays c ≡ true → Within s (run_by clocks header events) →
    Calm long stays s (run_by clocks header events) → Delivered setting long t stays s (run_by clocks header events) → IsSwift setting long →
    Honest (run_by clocks header events) → Life (run_by clocks header events) → FollowUntil stays c t s (run_by clocks header events) →
    InTable stays c t s (run_by clocks header events) → SetsNone c s (run_by clocks header events) → Undated c s (run_by clocks header events) →
    KeepsRange s (run_by clocks header events) → AgreesUntilNext setting long t stays c s (run_by clocks header events)
