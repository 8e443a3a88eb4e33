-- A network without a master gets one, in elections that aren't strict.
use Rattle.std.specs.Prelude.{◌≡◌, ◌≢◌, ◌≤◌, ◌<◌, ℕ, ◌+◌, ◌*◌, ◌/◌, ◌==◌, Bool, true, false, List, []}
use Rattle.tsp_rules.specs.Values.{Event, Master, ELECT_MIN, ELECT_SPREAD, QUIET, SLACK, WINDOW}
use Rattle.tsp_rules.specs.Guards.{delay}
use Rattle.tsp_base.specs.Words.{HeaderValue, Line, Within, dids, first_port, of, stood, time_of, view, word}
use Rattle.tsp_promises.specs.Setting.{Setting}
use Rattle.tsp_run.specs.Clocked.{Clocks, PossibleBy, SetByClocks, run_by}
use Rattle.tsp_run.specs.{Possible.Possible, Run.run, Setting.SetBy, Setup.node_line}
use Rattle.tsp_progress.specs.{Delivered.Delivered, FollowOn.Calm, FollowOn.IsMild, FollowOn.role_of, NoneBeside.StaysUp, OneWire.OneWire, Watched.Attended}
use Rattle.tsp_progress.specs.Watched.{Told}

-- from the place s on, as long as the true time is at most t, no node that stays is master
abbrev pub Headless : (ℕ → Bool) → ℕ → List Line → List Line → Type 0
Headless stays t s world = (h : List Line) → Within h world → Within s h → time_of (dids h) ≤ t → (n : ℕ) → stays n ≡ true → role_of n h ≢ Master

-- how long node n waits until it stands for election, at a place of the history
abbrev pub delay_of : ℕ → List Line → ℕ
delay_of n h = delay (word (dids (of n h)))

-- what a counter drifts in 800 s
abbrev pub drift_of : Setting → ℕ
drift_of setting = (setting.drift * (ELECT_MIN + ELECT_SPREAD + 40 * WINDOW) + 999999) / 1000000

-- by how much a delay must be shorter than another: WINDOW, 10 ms, twice `late`, three times `long`, and what two counters drift apart
abbrev pub lead : Setting → ℕ → ℕ → ℕ
lead setting late long = WINDOW + 10000 + 2 * late + 3 * long + 2 * drift_of setting

-- c stays and may be master, and its delay is shorter by that than that of each other node that stays and may be
pub record Foremost (header : HeaderValue) (setting : Setting) (late long : ℕ) (stays : ℕ → Bool) (c : ℕ) (s : List Line) : Type 0 where
  pub there : stays c ≡ true
  pub may : (node_line header c).may ≡ true
  pub first : (n : ℕ) → stays n ≡ true → (node_line header n).may ≡ true → (n == c) ≡ false → delay_of c s + lead setting late long < delay_of n s

-- no node that stays is Starting from the place s on
abbrev pub AllUp : (ℕ → Bool) → List Line → List Line → Type 0
AllUp stays s world = (n : ℕ) → stays n ≡ true → StaysUp n first_port s world

-- each node that stays has booted at the place s: its port has had a role since then
abbrev pub AllBooted : (ℕ → Bool) → List Line → Type 0
AllBooted stays s = (n : ℕ) → stays n ≡ true → stood (view first_port (of n s)) ≢ []

-- how long a network may be without a master: ELECT_MIN (300 s), three times the delay of the foremost node, 12 times WINDOW (60 s) and 8 times `long`
abbrev pub longest_headless : ℕ → ℕ → ℕ
longest_headless long d = ELECT_MIN + 3 * d + 12 * WINDOW + 8 * long

-- what is asked of the network and its nodes until the true time t
pub record Fair (header : HeaderValue) (setting : Setting) (late long t : ℕ) (stays : ℕ → Bool) (s world : List Line) : Type 0 where
  pub attended : Attended late world
  pub slack : late ≤ SLACK
  pub told : (n : ℕ) → stays n ≡ true → Told late setting t n world
  pub wire : OneWire header setting stays
  pub calm : Calm long stays s world
  pub delivered : Delivered setting long t stays s world
  pub mild : IsMild long

-- in a possible run, in elections that aren't strict, no stretch without a master is longer than that
abbrev pub RunsGetMaster : Type 0
RunsGetMaster = (header : HeaderValue) (setting : Setting) (events : List Event) (late long t : ℕ) (stays : ℕ → Bool) (c : ℕ) (s : List Line) →
    SetBy header setting → Possible header events → header.strict ≡ false → Fair header setting late long t stays s (run header events) →
    Within s (run header events) → AllUp stays s (run header events) → Foremost header setting late long stays c s →
    Headless stays t s (run header events) → t ≤ time_of (dids s) + longest_headless long (delay_of c s)

-- by any clocks
abbrev pub ClockedRunsGetMaster : Type 0
ClockedRunsGetMaster = (clocks : Clocks) (header : HeaderValue) (setting : Setting) (events : List Event) (late long t : ℕ) (stays : ℕ → Bool) (c : ℕ)
    (s : List Line) → SetByClocks clocks header setting → PossibleBy clocks header events → header.strict ≡ false →
    Fair header setting late long t stays s (run_by clocks header events) → Within s (run_by clocks header events) →
    AllUp stays s (run_by clocks header events) → Foremost header setting late long stays c s → Headless stays t s (run_by clocks header events) →
    t ≤ time_of (dids s) + longest_headless long (delay_of c s)

-- so it is from a place on at which the nodes that stay have just booted, a quiet time and 10 s later
abbrev pub RunsGetMasterSoon : Type 0
RunsGetMasterSoon = (header : HeaderValue) (setting : Setting) (events : List Event) (late long t : ℕ) (stays : ℕ → Bool) (c : ℕ) (s : List Line) →
    SetBy header setting → Possible header events → header.strict ≡ false → Fair header setting late long t stays s (run header events) →
    Within s (run header events) → AllBooted stays s → Foremost header setting late long stays c s →
    Headless stays t s (run header events) → t ≤ time_of (dids s) + (QUIET + 2 * WINDOW + longest_headless long (delay_of c s))

-- by any clocks
abbrev pub ClockedRunsGetMasterSoon : Type 0
ClockedRunsGetMasterSoon = (clocks : Clocks) (header : HeaderValue) (setting : Setting) (events : List Event) (late long t : ℕ) (stays : ℕ → Bool) (c : ℕ)
    (s : List Line) → SetByClocks clocks header setting → PossibleBy clocks header events → header.strict ≡ false →
    Fair header setting late long t stays s (run_by clocks header events) → Within s (run_by clocks header events) →
    AllBooted stays s → Foremost header setting late long stays c s → Headless stays t s (run_by clocks header events) →
    t ≤ time_of (dids s) + (QUIET + 2 * WINDOW + longest_headless long (delay_of c s))
