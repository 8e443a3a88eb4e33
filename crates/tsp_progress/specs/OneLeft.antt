-- Of two nodes at most one is left that is master, and never two again.
use Rattle.std.specs.Prelude.{◌≡◌, ◌≢◌, ◌≤◌, ◌<◌, ℕ, ◌+◌, ◌*◌, ◌==◌, Bool, true, false, List, ◌∷◌}
use Rattle.tsp_rules.specs.Values.{Become, Candidate, Event, Master, Port, ROUND, SLACK, WINDOW}
use Rattle.tsp_base.specs.Words.{Acts, Handed, HeaderValue, Line, Within, dids, of, role, time_of, view}
use Rattle.tsp_promises.specs.{Premises.Honest, Premises.Life, Setting.Setting}
use Rattle.tsp_run.specs.Clocked.{Clocks, PossibleBy, SetByClocks, run_by}
use Rattle.tsp_run.specs.{Possible.Possible, Run.run, Setting.SetBy}
use Rattle.tsp_progress.specs.{AckedInTime.IsPrompt, Delivered.Delivered, MastersTell.HasOnePort, NoneBeside.StaysUp, OneAtATime.Unbooted, OneStops.Spans}
use Rattle.tsp_progress.specs.{Watched.Attended, Watched.Told}

-- after the place s no port stands for election since octets from outside asked it to
abbrev pub Unasked : List Line → List Line → Type 0
Unasked s world = (l : Line) (older : List Line) → Within (l ∷ older) world → Within s older → l.did.deed ≡ Acts (Become Candidate) → l.did.step.cause ≢ Handed

-- port q of node n is its only one, and isn't Starting from the place s on; the node stays, and is told up to the true time t
pub record StaysOn (header : HeaderValue) (setting : Setting) (late t : ℕ) (stays : ℕ → Bool) (s : List Line) (n : ℕ) (q : Port) (world : List Line) : Type 0
  where
    pub alone : HasOnePort header n q
    pub up : StaysUp n q s world
    pub stays_is : stays n ≡ true
    pub told : Told late setting t n world

-- two such nodes of one network, and a line after the place s; the history ends at the true time t
pub record TwoNodes (header : HeaderValue) (setting : Setting) (late t : ℕ) (stays : ℕ → Bool) (s : List Line) (a b : ℕ) (q r : Port) (l : Line)
    (older world : List Line) : Type 0 where
  pub place : Within (l ∷ older) world
  pub since : Within s older
  pub first : StaysOn header setting late t stays s a q world
  pub second : StaysOn header setting late t stays s b r world
  pub net : setting.net a q ≡ setting.net b r
  pub apart : (a == b) ≡ false
  pub ends : time_of (dids world) ≤ t

-- a round, two resolutions, twice `long` and 20 s after that line not both are master when the history ends
abbrev pub OneLeft : HeaderValue → Setting → ℕ → ℕ → ℕ → (ℕ → Bool) → List Line → List Line → Type 0
OneLeft header setting late long t stays s world = (a b : ℕ) (q r : Port) (l : Line) (older : List Line) (round window : ℕ) →
    TwoNodes header setting late t stays s a b q r l older world → Spans setting (ROUND + late) round → Spans setting (WINDOW + late) window →
    l.did.step.at + (round + 2 * window + 2 * long + 4 * WINDOW) < t →
    ¬ ((role (view q (of a world)) ≡ Master) × (role (view r (of b world)) ≡ Master))

-- in a possible run that is looked at within SLACK, in which datagrams are delivered in time, none lives longer than 30 s, none is forged, no node that
-- stays boots, and none is asked from outside to stand. So it is whenever a step ends
abbrev pub RunsHaveOneLeft : Type 0
RunsHaveOneLeft = (header : HeaderValue) (setting : Setting) (events : List Event) (late long t : ℕ) (stays : ℕ → Bool) (s : List Line) →
    SetBy header setting → Possible header events → Attended late (run header events) → late ≤ SLACK → Delivered setting long t stays s (run header events) →
    IsPrompt setting long → Unbooted stays s (run header events) → Unasked s (run header events) → Honest (run header events) → Life (run header events) →
    OneLeft header setting late long t stays s (run header events)

-- by any clocks
abbrev pub ClockedRunsHaveOneLeft : Type 0
ClockedRunsHaveOneLeft = (clocks : Clocks) (header : HeaderValue) (setting : Setting) (events : List Event) (late long t : ℕ) (stays : ℕ → Bool)
    (s : List Line) → SetByClocks clocks header setting → PossibleBy clocks header events → Attended late (run_by clocks header events) → late ≤ SLACK →
    Delivered setting long t stays s (run_by clocks header events) → IsPrompt setting long → Unbooted stays s (run_by clocks header events) →
    Unasked s (run_by clocks header events) → Honest (run_by clocks header events) → Life (run_by clocks header events) →
    OneLeft header setting late long t stays s (run_by clocks header events)
