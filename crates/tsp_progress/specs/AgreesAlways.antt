-- All clocks of the network agree at each time, except for `long` after each Close.
use Rattle.std.specs.Prelude.{◌≡◌, ◌≤◌, ◌<◌, ℕ, ◌+◌, ◌*◌, ◌/◌, ℤ, pos, Bool, true, List, ◌∷◌}
use Rattle.tsp_rules.specs.Values.{Close, Event, ROUND, SLACK}
use Rattle.tsp_base.specs.Words.{Acts, HeaderValue, Line, Within, dids, time_of}
use Rattle.tsp_promises.specs.{ClockAt.ClocksWithin, Fits.node_of, Premises.Honest, Premises.Life, Setting.Setting}
use Rattle.tsp_run.specs.Clocked.{Clocks, PossibleBy, SetByClocks, run_by}
use Rattle.tsp_run.specs.{Possible.Possible, Run.run, Setting.SetBy}
use Rattle.tsp_progress.specs.{AgreesOn.HistoryAt, AgreesOn.agree_within, Delivered.Delivered, FollowOn.Calm, FollowOn.FollowUntil, FollowOn.settled_after}
use Rattle.tsp_progress.specs.{InTable.GivesUpNone, InTable.InTable, InTable.KeepsRange, InTable.SetsNone, InTable.Undated, OneWire.OneWire}
use Rattle.tsp_progress.specs.{SampledInTime.IsSwift, Watched.Attended, Watched.Told}

-- the longest true time since the last Close: ROUND ticks and `late`, by a clock that keeps the drift, and 1.02 s
abbrev pub round_age : ℕ → ℕ
round_age late = (1000 * (ROUND + late) + 2000) / 999 + 1020000

-- how long all must have followed: 485 s and `long`
abbrev pub agreed_after : ℕ → ℕ
agreed_after long = settled_after long + ROUND + 3 * SLACK

-- node c closed no round less than `long` before the true time x
abbrev pub NoneJust : ℕ → ℕ → ℕ → List Line → Type 0
NoneJust long c x h = (close : Line) (past : List Line) (count : ℕ) (lo size mean : ℤ) → Within (close ∷ past) h → node_of close ≡ c →
    close.did.deed ≡ Acts (Close count lo size mean) → close.did.step.at + long ≤ x

-- at each such true time from then on the clocks of any two nodes that stay differ by at most this
abbrev pub AgreesAlways : Setting → ℕ → ℕ → ℕ → (ℕ → Bool) → ℕ → List Line → List Line → Type 0
AgreesAlways setting late long t stays c s world = (x : ℕ) (h : List Line) → HistoryAt x h world → time_of (dids s) + agreed_after long ≤ x → x + long < t →
    NoneJust long c x h → (n m : ℕ) → stays n ≡ true → stays m ≡ true →
    ClocksWithin setting h x n m (pos (agree_within setting long (round_age late)))

-- in a possible run that is calm after the place s, of nodes with one port each on one network that follow node c, which has all in its table, and posts no
-- SETTIME, takes no date and gives up no round; each node is looked at within SLACK, datagrams are delivered in time, none is forged or older than 30 s,
-- and clocks stay in their range
abbrev pub RunsAgreeAlways : Type 0
RunsAgreeAlways = (header : HeaderValue) (setting : Setting) (events : List Event) (late long t : ℕ) (stays : ℕ → Bool) (c : ℕ) (s : List Line) →
    SetBy header setting → Possible header events → Attended late (run header events) → late ≤ SLACK → Told late setting t c (run header events) →
    OneWire header setting stays → stays c ≡ true → Within s (run header events) → Calm long stays s (run header events) →
    Delivered setting long t stays s (run header events) → IsSwift setting long → Honest (run header events) → Life (run header events) →
    FollowUntil stays c t s (run header events) → InTable stays c t s (run header events) → SetsNone c s (run header events) →
    Undated c s (run header events) → GivesUpNone c s (run header events) → KeepsRange s (run header events) →
    AgreesAlways setting late long t stays c s (run header events)

-- by any clocks
abbrev pub ClockedRunsAgreeAlways : Type 0
ClockedRunsAgreeAlways =
    (clocks : Clocks) (header : HeaderValue) (setting : Setting) (events : List Event) (late long t : ℕ) (stays : ℕ → Bool) (c : ℕ) (s : List Line) →
    SetByClocks clocks header setting → PossibleBy clocks header events → Attended late (run_by clocks header events) → late ≤ SLACK →
    Told late setting t c (run_by clocks header events) → OneWire header setting stays → stays c ≡ true → Within s (run_by clocks header events) →
    Calm long stays s (run_by clocks header events) → Delivered setting long t stays s (run_by clocks header events) → IsSwift setting long →
    Honest (run_by clocks header events) → Life (run_by clocks header events) → FollowUntil stays c t s (run_by clocks header events) →
    InTable stays c t s (run_by clocks header events) → SetsNone c s (run_by clocks header events) → Undated c s (run_by clocks header events) →
    GivesUpNone c s (run_by clocks header events) → KeepsRange s (run_by clocks header events) →
    AgreesAlways setting late long t stays c s (run_by clocks header events)
