-- Of two candidatures near each other the later one loses, in elections that aren't strict too.
use Rattle.std.specs.Prelude.{◌≡◌, ◌≢◌, ◌<◌, ℕ, ◌+◌, ◌*◌, ◌/◌, ◌==◌, Bool, true, false, List, ◌∷◌}
use Rattle.tsp_rules.specs.Values.{Become, Boot, Candidate, Event, HOLD, Master}
use Rattle.tsp_base.specs.Words.{Acts, Handed, HeaderValue, Here, Line, Within, of, stood, view}
use Rattle.tsp_promises.specs.{Fits.node_of, Premises.Honest, Premises.Life, Setting.Setting}
use Rattle.tsp_run.specs.Clocked.{Clocks, PossibleBy, SetByClocks, run_by}
use Rattle.tsp_run.specs.{Possible.Possible, Run.run, Setting.SetBy}
use Rattle.tsp_progress.specs.{AckedInTime.IsPrompt, Delivered.Delivered}

-- at the line c, after these lines, its port stands for election, and not since octets from outside asked it to
pub record StandsAt (c : Line) (older world : List Line) : Type 0 where
  pub place : Within (c ∷ older) world
  pub stands : c.did.deed ≡ Acts (Become Candidate)
  pub unasked : c.did.step.cause ≢ Handed

-- at the line w its port becomes master as the candidate that it became at the line c: its role didn't change in between
pub record WinsIt (c : Line) (older : List Line) (w : Line) (before world : List Line) : Type 0 where
  pub place : Within (w ∷ before) world
  pub node : node_of w ≡ node_of c
  pub port : w.port ≡ c.port
  pub wins : w.did.deed ≡ Acts (Become Master)
  pub still : stood (view c.port (of (node_of c) before)) ≡ Here c.did ∷ view c.port (of (node_of c) older)

-- from the place s on no node that stays boots
abbrev pub Unbooted : (ℕ → Bool) → List Line → List Line → Type 0
Unbooted stays s world = (l : Line) (older : List Line) → Within (l ∷ older) world → Within s older → stays (node_of l) ≡ true → l.did.deed ≢ Acts Boot

-- from the earlier candidature until twice `long` after the later one it is less than HOLD, by the clock of a node that keeps the drift
abbrev pub IsNear : Setting → ℕ → Line → Line → Type 0
IsNear setting long c d = (x : ℕ) → d.did.step.at + 2 * long ≡ c.did.step.at + x → x + (setting.drift * x + 999999) / 1000000 < HOLD

-- two candidatures of different nodes of one network, which both stay, after the place s and well before the true time t; d is the later one
pub record TwoStand (setting : Setting) (long t : ℕ) (stays : ℕ → Bool) (s : List Line) (c : Line) (older : List Line) (d : Line) (newer world : List Line) :
    Type 0 where
  pub first : StandsAt c older world
  pub second : StandsAt d newer world
  pub order : Within (c ∷ older) newer
  pub since : Within s older
  pub differ : (node_of c == node_of d) ≡ false
  pub net : setting.net (node_of c) c.port ≡ setting.net (node_of d) d.port
  pub first_stays : stays (node_of c) ≡ true
  pub second_stays : stays (node_of d) ≡ true
  pub early : d.did.step.at + 2 * long < t
  pub near : IsNear setting long c d

-- the later one loses
abbrev pub LaterLoses : Setting → ℕ → ℕ → (ℕ → Bool) → List Line → List Line → Type 0
LaterLoses setting long t stays s world = (c : Line) (older : List Line) (d : Line) (newer : List Line) →
    TwoStand setting long t stays s c older d newer world → (w : Line) (before : List Line) → ¬ WinsIt d newer w before world

-- in a possible run in which datagrams are delivered in time, none lives longer than 30 s, and none is forged
abbrev pub RunsElectOne : Type 0
RunsElectOne = (header : HeaderValue) (setting : Setting) (events : List Event) (long t : ℕ) (stays : ℕ → Bool) (s : List Line) → SetBy header setting →
    Possible header events → Delivered setting long t stays s (run header events) → IsPrompt setting long → Unbooted stays s (run header events) →
    Honest (run header events) → Life (run header events) → LaterLoses setting long t stays s (run header events)

-- by any clocks
abbrev pub ClockedRunsElectOne : Type 0
ClockedRunsElectOne = (clocks : Clocks) (header : HeaderValue) (setting : Setting) (events : List Event) (long t : ℕ) (stays : ℕ → Bool) (s : List Line) →
    SetByClocks clocks header setting → PossibleBy clocks header events → Delivered setting long t stays s (run_by clocks header events) →
    IsPrompt setting long → Unbooted stays s (run_by clocks header events) → Honest (run_by clocks header events) → Life (run_by clocks header events) →
    LaterLoses setting long t stays s (run_by clocks header events)
