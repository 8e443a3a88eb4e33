-- All clocks of the network agree at each time, also soon after a Close.
use Rattle.std.specs.Prelude.{◌≡◌, ◌≤◌, ◌<◌, ℕ, ◌+◌, ◌*◌, pos, Bool, true, List}
use Rattle.tsp_rules.specs.Values.{Event, ROUND, SLACK}
use Rattle.tsp_base.specs.Words.{HeaderValue, Line, Within, dids, time_of, width}
use Rattle.tsp_promises.specs.{ClockAt.ClocksWithin, Premises.Honest, Premises.Life, Setting.Setting}
use Rattle.tsp_run.specs.Clocked.{Clocks, PossibleBy, SetByClocks, run_by}
use Rattle.tsp_run.specs.{Possible.Possible, Run.run, Setting.SetBy}
use Rattle.tsp_progress.specs.{AgreesAlways.agreed_after, AgreesAlways.round_age, AgreesOn.HistoryAt, Delivered.Delivered, ErrSoon.soon_err}
use Rattle.tsp_progress.specs.{FollowOn.Calm, FollowOn.FollowUntil, InTable.GivesUpNone, InTable.InTable, InTable.KeepsRange, InTable.SetsNone}
use Rattle.tsp_progress.specs.{InTable.Undated, OneWire.OneWire, SampledInTime.IsSwift, Watched.Attended, Watched.Told}

-- by how much two clocks may differ while some are corrected by the last round, and some by the one before: by the errors of four readings, and by what
-- six counters drift since
abbrev pub agree_meanwhile : Setting → ℕ → ℕ → ℕ
agree_meanwhile setting late long = 4 * soon_err setting long + 6 * width setting.drift (round_age late + long + 9009012)

-- how long all must have followed: 728 s and `long`
abbrev pub agreed_long_after : ℕ → ℕ
agreed_long_after long = agreed_after long + ROUND + 3 * SLACK

-- at each true time from then on the clocks of any two nodes that stay differ by at most this
abbrev pub AgreesMeanwhile : Setting → ℕ → ℕ → ℕ → (ℕ → Bool) → List Line → List Line → Type 0
AgreesMeanwhile setting late long t stays s world = (x : ℕ) (h : List Line) → HistoryAt x h world → time_of (dids s) + agreed_long_after long ≤ x →
    x + long < t → (n m : ℕ) → stays n ≡ true → stays m ≡ true → ClocksWithin setting h x n m (pos (agree_meanwhile setting late long))

-- in a possible run that is calm after the place s, of nodes with one port each on one network that follow node c, which has all in its table, and posts no
-- SETTIME, takes no date and gives up no round; each node is looked at within SLACK, datagrams are delivered in time, none is forged or older than 30 s,
-- and clocks stay in their range
abbrev pub RunsAgreeMeanwhile : Type 0
RunsAgreeMeanwhile = (header : HeaderValue) (setting : Setting) (events : List Event) (late long t : ℕ) (stays : ℕ → Bool) (c : ℕ) (s : List Line) →
    SetBy header setting → Possible header events → Attended late (run header events) → late ≤ SLACK → Told late setting t c (run header events) →
    OneWire header setting stays → stays c ≡ true → Within s (run header events) → Calm long stays s (run header events) →
    Delivered setting long t stays s (run header events) → IsSwift setting long → Honest (run header events) → Life (run header events) →
    FollowUntil stays c t s (run header events) → InTable stays c t s (run header events) → SetsNone c s (run header events) →
    Undated c s (run header events) → GivesUpNone c s (run header events) → KeepsRange s (run header events) →
    AgreesMeanwhile setting late long t stays s (run header events)

-- by any clocks
abbrev pub ClockedRunsAgreeMeanwhile : Type 0
ClockedRunsAgreeMeanwhile =
    (clocks : Clocks) (header : HeaderValue) (setting : Setting) (events : List Event) (late long t : ℕ) (stays : ℕ → Bool) (c : ℕ) (s : List Line) →
    SetByClocks clocks header setting → PossibleBy clocks header events → Attended late (run_by clocks header events) → late ≤ SLACK →
    Told late setting t c (run_by clocks header events) → OneWire header setting stays → stays c ≡ true → Within s (run_by clocks header events) →
    Calm long stays s (run_by clocks header events) → Delivered setting long t stays s (run_by clocks header events) → IsSwift setting long →
    Honest (run_by clocks header events) → Life (run_by clocks header events) → FollowUntil stays c t s (run_by clocks header events) →
    InTable stays c t s (run_by clocks header events) → SetsNone c s (run_by clocks header events) → Undated c s (run_by clocks header events) →
    GivesUpNone c s (run_by clocks header events) → KeepsRange s (run_by clocks header events) →
    AgreesMeanwhile setting late long t stays s (run_by clocks header events)
