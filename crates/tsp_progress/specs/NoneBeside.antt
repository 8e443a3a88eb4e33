-- Beside a master that leads on no candidate wins.
use Rattle.std.specs.Prelude.{◌≡◌, ◌≤◌, ℕ, ◌+◌, Bool, true, false, List}
use Rattle.tsp_rules.specs.Values.{Election, Event, Message, PeerId, Port, SLACK, WINDOW}
use Rattle.tsp_rules.specs.Guards.{is_starting_role}
use Rattle.tsp_base.specs.Words.{HeaderValue, Line, MessageValue, Within, dids, of, role, time_of, view}
use Rattle.tsp_promises.specs.{Fits.node_of, Setting.Setting}
use Rattle.tsp_run.specs.Clocked.{Clocks, PossibleBy, SetByClocks, run_by}
use Rattle.tsp_run.specs.{Possible.Possible, Run.run, Setting.SetBy}
use Rattle.tsp_progress.specs.{AnswersInTime.Asks, Delivered.Delivered, FoundInTime.IsQuick, Heeds.is_candidate_role, MastersTell.LeadsOn}
use Rattle.tsp_progress.specs.{RefusedLoses.WinsAfter, Watched.Attended}

-- port q of node n isn't Starting at the place `early`, nor later
abbrev pub StaysUp : ℕ → Port → List Line → List Line → Type 0
StaysUp n q early world = (before : List Line) → Within early before → Within before world → is_starting_role (role (view q (of n before))) ≡ false

-- p's port on the network of the line z is master when that is posted, and leads on. The place s is 5 s of true time before z, and the port of z isn't
-- Starting since then
pub record LeadsBeside (setting : Setting) (s : List Line) (z : Line) (asked : List Line) (p : PeerId) (world : List Line) : Type 0 where
  pub port : Port
  pub net : setting.net p.0 port ≡ setting.net (node_of z) z.port
  pub leads : LeadsOn p.0 port asked world
  pub long : time_of (dids s) + WINDOW ≤ z.did.step.at
  pub up : StaysUp (node_of z) z.port s world

-- a candidate that asks such a port for its vote doesn't win, whether or not that is sending it away already
abbrev pub NoneBeside : Setting → ℕ → ℕ → (ℕ → Bool) → List Line → List Line → Type 0
NoneBeside setting long t stays s world = (z : Line) (asked : List Line) (p : PeerId) (m : MessageValue) →
    Asks setting long t stays s z asked world p (Message m) → m.kind ≡ Election → is_candidate_role (role (view z.port (of (node_of z) asked))) ≡ true →
    LeadsBeside setting s z asked p world → (c : Line) (before : List Line) → ¬ WinsAfter z asked c before world

-- in a possible run that is looked at within SLACK, and in which datagrams are delivered in time
abbrev pub RunsLeadOn : Type 0
RunsLeadOn = (header : HeaderValue) (setting : Setting) (events : List Event) (late long t : ℕ) (stays : ℕ → Bool) (s : List Line) → SetBy header setting →
    Possible header events → Attended late (run header events) → late ≤ SLACK → Delivered setting long t stays s (run header events) → IsQuick setting long →
    NoneBeside setting long t stays s (run header events)

-- by any clocks
abbrev pub ClockedRunsLeadOn : Type 0
ClockedRunsLeadOn = (clocks : Clocks) (header : HeaderValue) (setting : Setting) (events : List Event) (late long t : ℕ) (stays : ℕ → Bool) (s : List Line) →
    SetByClocks clocks header setting → PossibleBy clocks header events → Attended late (run_by clocks header events) → late ≤ SLACK →
    Delivered setting long t stays s (run_by clocks header events) → IsQuick setting long → NoneBeside setting long t stays s (run_by clocks header events)
