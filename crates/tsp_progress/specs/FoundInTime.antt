-- A search beside a master finds it in time.
use Rattle.std.specs.Prelude.{◌≡◌, ◌<◌, ◌⊎◌, ℕ, ◌+◌, ◌*◌, ◌/◌, Bool, true, false, List, ◌∷◌, Some}
use Rattle.tsp_rules.specs.Values.{Boot, Become, Loose, MasterAck, MasterReq, Message, PeerId, Event, WINDOW}
use Rattle.tsp_base.specs.Words.{Acts, Deed, Did, HeaderValue, Here, Line, MessageValue, Seen, Within, armed, bare, of, role, view}
use Rattle.tsp_promises.specs.{Fits.node_of, Setting.Setting}
use Rattle.tsp_run.specs.Clocked.{Clocks, PossibleBy, SetByClocks, run_by}
use Rattle.tsp_run.specs.{Possible.Possible, Run.run, Setting.SetBy}
use Rattle.tsp_progress.specs.AnswersInTime.{AnswerTaken, Asks, Meanwhile}
use Rattle.tsp_progress.specs.{ByTable.node_in, ByTable.port_before, Delivered.Delivered, Heeds.DoesNext, Heeds.follow_acts, Heeds.is_master_role}

-- a boot, and a change of the role
abbrev pub is_change : Deed → Bool
is_change (Acts Boot) = true
is_change (Acts (Become r)) = true
is_change _ = false

-- between these two pasts of a port its role changed
pub record Changed (early late : List Seen) : Type 0 where
  pub change : Did
  pub before : List Seen
  pub place : Within (Here change ∷ before) late
  pub since : Within early before
  pub is : is_change change.deed ≡ true

-- at the line l its port is Loose, and Search is armed for WINDOW ticks from then
pub record Searching (l : Line) (older : List Line) : Type 0 where
  pub loose : role (view l.port (of (node_of l) older)) ≡ Loose
  pub armed_is : (armed (view l.port (of (node_of l) older))).search ≡ Some (l.did.tick + WINDOW)

-- the port that asked for a master hears of p at most twice `long` later; then it follows p, unless its role changed since it asked
pub record Finds (header : HeaderValue) (long : ℕ) (l : Line) (older world : List Line) (p : PeerId) (number : ℕ) : Type 0 where
  pub answer : AnswerTaken long l older world p (Message (bare MasterAck number (node_in header p.0).name))
  pub follows : Changed (view l.port (of (node_of l) (l ∷ older))) (view l.port (of (node_of l) answer.before))
      ⊎ DoesNext (follow_acts p answer.line.did.tick (port_before (node_in header (node_of l)) answer.line (of (node_of l) answer.before))) answer.line
      (of (node_of l) answer.before) (of (node_of l) world)

-- twice `long`, by the clock of a node that keeps the drift, is less than WINDOW
abbrev pub IsQuick : Setting → ℕ → Type 0
IsQuick setting long = 2 * long + (setting.drift * (2 * long) + 999999) / 1000000 < WINDOW

-- whoever searches finds a port that is master meanwhile
abbrev pub FoundInTime : HeaderValue → Setting → ℕ → ℕ → (ℕ → Bool) → List Line → List Line → Type 0
FoundInTime header setting long t stays s world = (l : Line) (older : List Line) (p : PeerId) (m : MessageValue) →
    Asks setting long t stays s l older world p (Message m) → m.kind ≡ MasterReq → Searching l older →
    Meanwhile header setting long l older world p (λ x past. is_master_role (role past.seen)) → Finds header long l older world p m.number

-- in a possible run in which datagrams are delivered in time
abbrev pub RunsFind : Type 0
RunsFind = (header : HeaderValue) (setting : Setting) (events : List Event) (long t : ℕ) (stays : ℕ → Bool) (s : List Line) → SetBy header setting →
    Possible header events → Delivered setting long t stays s (run header events) → IsQuick setting long →
    FoundInTime header setting long t stays s (run header events)

-- by any clocks
abbrev pub ClockedRunsFind : Type 0
ClockedRunsFind = (clocks : Clocks) (header : HeaderValue) (setting : Setting) (events : List Event) (long t : ℕ) (stays : ℕ → Bool) (s : List Line) →
    SetByClocks clocks header setting → PossibleBy clocks header events → Delivered setting long t stays s (run_by clocks header events) →
    IsQuick setting long → FoundInTime header setting long t stays s (run_by clocks header events)
