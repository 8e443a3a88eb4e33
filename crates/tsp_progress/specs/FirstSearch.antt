-- A port whose quiet time ends beside a master finds it in time.
use Rattle.std.specs.Prelude.{◌≡◌, ◌<◌, ℕ, ◌+◌, ◌*◌, ◌==◌, Bool, true, false, List, ◌∷◌}
use Rattle.tsp_rules.specs.Values.{Ring, Quiet, Event, PeerId}
use Rattle.tsp_base.specs.Words.{Acts, HeaderValue, Line, Within, is_among, role}
use Rattle.tsp_promises.specs.{Fits.node_of, Setting.Setting}
use Rattle.tsp_run.specs.Clocked.{Clocks, PossibleBy, SetByClocks, run_by}
use Rattle.tsp_run.specs.{Possible.Possible, Run.run, Setting.SetBy}
use Rattle.tsp_progress.specs.{AnswersInTime.Meanwhile, Delivered.Delivered, FoundInTime.Finds, FoundInTime.IsQuick, FoundInTime.Searching}
use Rattle.tsp_progress.specs.{Heeds.is_master_role}

-- at the line k, which is after the place s, Quiet rings; p is another member of the network of its port, both stay, and the true time t is later by
-- twice `long`
pub record Awakes (setting : Setting) (long t : ℕ) (stays : ℕ → Bool) (s : List Line) (k : Line) (older world : List Line) (p : PeerId) : Type 0 where
  pub place : Within (k ∷ older) world
  pub deed : k.did.deed ≡ Acts (Ring Quiet)
  pub since : Within s older
  pub member : is_among p (setting.members (setting.net (node_of k) k.port)) ≡ true
  pub other : (p.0 == node_of k) ≡ false
  pub there : stays p.0 ≡ true
  pub here : stays (node_of k) ≡ true
  pub early : k.did.step.at + 2 * long < t

-- in the same step its port searches, and asks p; it hears of p at most twice `long` later, and then follows it, unless its role changed since
pub record FoundFirst (header : HeaderValue) (long : ℕ) (k : Line) (older world : List Line) (p : PeerId) : Type 0 where
  pub ask : Line
  pub before : List Line
  pub later : Within (k ∷ older) before
  pub step : ask.did.step ≡ k.did.step
  pub port : ask.port ≡ k.port
  pub searches : Searching ask before
  pub finds : Finds header long ask before world p 0

-- so does a port beside one that is master whenever it takes something at most `long` later
abbrev pub FirstSearch : HeaderValue → Setting → ℕ → ℕ → (ℕ → Bool) → List Line → List Line → Type 0
FirstSearch header setting long t stays s world = (k : Line) (older : List Line) (p : PeerId) → Awakes setting long t stays s k older world p →
    Meanwhile header setting long k older world p (λ x past. is_master_role (role past.seen)) → FoundFirst header long k older world p

-- in a possible run in which datagrams are delivered in time
abbrev pub RunsFindFirst : Type 0
RunsFindFirst = (header : HeaderValue) (setting : Setting) (events : List Event) (long t : ℕ) (stays : ℕ → Bool) (s : List Line) → SetBy header setting →
    Possible header events → Delivered setting long t stays s (run header events) → IsQuick setting long →
    FirstSearch header setting long t stays s (run header events)

-- by any clocks
abbrev pub ClockedRunsFindFirst : Type 0
ClockedRunsFindFirst = (clocks : Clocks) (header : HeaderValue) (setting : Setting) (events : List Event) (long t : ℕ) (stays : ℕ → Bool) (s : List Line) →
    SetByClocks clocks header setting → PossibleBy clocks header events → Delivered setting long t stays s (run_by clocks header events) →
    IsQuick setting long → FirstSearch header setting long t stays s (run_by clocks header events)
