-- Of two masters one stops.
use Rattle.std.specs.Prelude.{◌≡◌, ◌≤◌, ◌<◌, ◌⊎◌, ℕ, ◌+◌, ◌*◌, ◌/◌, ◌==◌, Bool, true, false, List, ◌∷◌}
use Rattle.tsp_rules.specs.Values.{Event, Port, Master, ROUND, SLACK, WINDOW}
use Rattle.tsp_base.specs.Words.{Did, HeaderValue, Here, Line, Seen, Within, of, role, view}
use Rattle.tsp_promises.specs.Setting.{Setting}
use Rattle.tsp_run.specs.Clocked.{Clocks, PossibleBy, SetByClocks, run_by}
use Rattle.tsp_run.specs.{Possible.Possible, Run.run, Setting.SetBy}
use Rattle.tsp_progress.specs.{Delivered.Delivered, FoundInTime.IsQuick, FoundInTime.is_change, MastersTell.HasOnePort, Watched.Attended, Watched.Told}

-- in so much true time a node that keeps the drift counts more than n ticks
abbrev pub Spans : Setting → ℕ → ℕ → Type 0
Spans setting n span = n + (setting.drift * span + 999999) / 1000000 < span

-- port q of node n is its only one, and is master at the place `early`; the node stays, and is told up to the true time t
pub record LeadsAlone (header : HeaderValue) (setting : Setting) (late t : ℕ) (stays : ℕ → Bool) (n : ℕ) (q : Port) (early world : List Line) : Type 0 where
  pub alone : HasOnePort header n q
  pub master : role (view q (of n early)) ≡ Master
  pub stays_is : stays n ≡ true
  pub told : Told late setting t n world

-- two nodes are masters on one network at the line l, which is after the place s
pub record TwoLead (header : HeaderValue) (setting : Setting) (late t : ℕ) (stays : ℕ → Bool) (s : List Line) (a b : ℕ) (q r : Port) (l : Line)
    (older world : List Line) : Type 0 where
  pub place : Within (l ∷ older) world
  pub since : Within s older
  pub first : LeadsAlone header setting late t stays a q (l ∷ older) world
  pub second : LeadsAlone header setting late t stays b r (l ∷ older) world
  pub net : setting.net a q ≡ setting.net b r
  pub apart : (a == b) ≡ false

-- between these two pasts of a port its role changed, or its node booted, at this true time or before
pub record ChangedBy (by : ℕ) (early late : List Seen) : Type 0 where
  pub change : Did
  pub before : List Seen
  pub place : Within (Here change ∷ before) late
  pub since : Within early before
  pub is : is_change change.deed ≡ true
  pub soon : change.step.at ≤ by

-- by a round, two times a resolution, and twice `long` later, the role of one of the two has changed, or its node has booted
abbrev pub OneStops : HeaderValue → Setting → ℕ → ℕ → ℕ → (ℕ → Bool) → List Line → List Line → Type 0
OneStops header setting late long t stays s world = (a b : ℕ) (q r : Port) (l : Line) (older : List Line) (round window : ℕ) →
    TwoLead header setting late t stays s a b q r l older world → Spans setting (ROUND + late) round → Spans setting (WINDOW + late) window →
    l.did.step.at + (round + 2 * window + 2 * long) < t →
    ChangedBy (l.did.step.at + (round + 2 * window + 2 * long)) (view q (of a (l ∷ older))) (view q (of a world))
    ⊎ ChangedBy (l.did.step.at + (round + 2 * window + 2 * long)) (view r (of b (l ∷ older))) (view r (of b world))

-- in a possible run that is looked at within SLACK, and in which datagrams are delivered in time
abbrev pub RunsLeaveOne : Type 0
RunsLeaveOne = (header : HeaderValue) (setting : Setting) (events : List Event) (late long t : ℕ) (stays : ℕ → Bool) (s : List Line) → SetBy header setting →
    Possible header events → Attended late (run header events) → late ≤ SLACK → Delivered setting long t stays s (run header events) → IsQuick setting long →
    OneStops header setting late long t stays s (run header events)

-- by any clocks
abbrev pub ClockedRunsLeaveOne : Type 0
ClockedRunsLeaveOne = (clocks : Clocks) (header : HeaderValue) (setting : Setting) (events : List Event) (late long t : ℕ) (stays : ℕ → Bool) (s : List Line) →
    SetByClocks clocks header setting → PossibleBy clocks header events → Attended late (run_by clocks header events) → late ≤ SLACK →
    Delivered setting long t stays s (run_by clocks header events) → IsQuick setting long →
    OneStops header setting late long t stays s (run_by clocks header events)
