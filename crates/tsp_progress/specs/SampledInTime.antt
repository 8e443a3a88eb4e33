-- Each peer that is measured has a sample when its round closes.
use Rattle.std.specs.Prelude.{◌≡◌, ◌≤◌, ◌<◌, ℕ, ◌+◌, ◌*◌, ◌/◌, ◌==◌, ℤ, Bool, true, false, List, ◌∷◌, is_some}
use Rattle.tsp_rules.specs.Values.{Close, Event, PeerId, CLOSE}
use Rattle.tsp_rules.specs.Guards.{is_in_range}
use Rattle.tsp_base.specs.Words.{Acts, HeaderValue, Here, Line, Within, estimate, is_among, is_measured, of, started, view}
use Rattle.tsp_promises.specs.{Fits.node_of, Setting.Setting}
use Rattle.tsp_run.specs.Clocked.{Clocks, PossibleBy, SetByClocks, run_by}
use Rattle.tsp_run.specs.{Possible.Possible, Run.run, Setting.SetBy}
use Rattle.tsp_progress.specs.{AnswersInTime.Meanwhile, Delivered.Delivered}

-- at the line c a round closes, which began at the line `begin`, after the place s
pub record ClosesSince (s : List Line) (c : Line) (older world : List Line) : Type 0 where
  pub place : Within (c ∷ older) world
  pub count : ℕ
  pub lo : ℤ
  pub size : ℤ
  pub mean : ℤ
  pub deed : c.did.deed ≡ Acts (Close count lo size mean)
  pub begin : Line
  pub before : List Line
  pub began : Within (begin ∷ before) older
  pub node : node_of begin ≡ node_of c
  pub port : begin.port ≡ c.port
  pub started_is : started (view c.port (of (node_of c) older)) ≡ Here begin.did ∷ view c.port (of (node_of c) before)
  pub since : Within s before

-- p is another member of the network of the line's port, and is measured when the round closes there; both stay, and the history is told so far
pub record Measured (setting : Setting) (t : ℕ) (stays : ℕ → Bool) (c : Line) (older : List Line) (p : PeerId) : Type 0 where
  pub member : is_among p (setting.members (setting.net (node_of c) c.port)) ≡ true
  pub other : (p.0 == node_of c) ≡ false
  pub there : stays p.0 ≡ true
  pub here : stays (node_of c) ≡ true
  pub told : c.did.step.at ≤ t
  pub measured : is_measured p (view c.port (of (node_of c) older)) ≡ true

-- twice `long`, by the clock of a node that keeps the drift, is less than CLOSE
abbrev pub IsSwift : Setting → ℕ → Type 0
IsSwift setting long = 2 * long + (setting.drift * (2 * long) + 999999) / 1000000 < CLOSE

-- a measured peer whose clock is in its range whenever it takes something at most `long` after the round began has a sample when the round closes
abbrev pub SampledInTime : HeaderValue → Setting → ℕ → ℕ → (ℕ → Bool) → List Line → List Line → Type 0
SampledInTime header setting long t stays s world = (c : Line) (older : List Line) (r : ClosesSince s c older world) (p : PeerId) →
    Measured setting t stays c older p → Meanwhile header setting long r.begin r.before world p is_in_range →
    is_some (estimate p (view c.port (of (node_of c) older))) ≡ true

-- in a possible run in which datagrams are delivered in time
abbrev pub RunsSample : Type 0
RunsSample = (header : HeaderValue) (setting : Setting) (events : List Event) (long t : ℕ) (stays : ℕ → Bool) (s : List Line) → SetBy header setting →
    Possible header events → Delivered setting long t stays s (run header events) → IsSwift setting long →
    SampledInTime header setting long t stays s (run header events)

-- by any clocks
abbrev pub ClockedRunsSample : Type 0
ClockedRunsSample = (clocks : Clocks) (header : HeaderValue) (setting : Setting) (events : List Event) (long t : ℕ) (stays : ℕ → Bool) (s : List Line) →
    SetByClocks clocks header setting → PossibleBy clocks header events → Delivered setting long t stays s (run_by clocks header events) →
    IsSwift setting long → SampledInTime header setting long t stays s (run_by clocks header events)
