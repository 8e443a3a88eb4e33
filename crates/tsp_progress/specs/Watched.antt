-- What progress asks of how nodes are looked at.
use Rattle.std.specs.Prelude.{◌≡◌, ◌≤◌, ℕ, ◌+◌, List, Some}
use Rattle.tsp_rules.specs.Values.{Alarm, PeerId, Port}
use Rattle.tsp_base.specs.Words.{Begins, Line, Seen, Sending, armed, deadline, deadline_of, of, open_send, view}
use Rattle.tsp_promises.specs.{Everywhere.Everywhere, Fits.node_of, Setting.Setting}

-- at tick x no alarm and no open send of the port is overdue by more than `late` ticks
pub record Watched (late x : ℕ) (seen : List Seen) : Type 0 where
  pub alarms : (a : Alarm) (at : ℕ) → deadline (armed seen) a ≡ Some at → x ≤ at + late
  pub sends : (p : PeerId) (s : Sending) → open_send p seen ≡ Some s → x ≤ deadline_of s + late

-- where a step of a node begins, this holds of each of its ports, at its tick then
abbrev pub BeginsAt : (ℕ → List Seen → Type 0) → Line → List Line → Type 0
BeginsAt P l world = l.did.deed ≡ Begins → (q : Port) → P l.did.tick (view q (of (node_of l) world))

-- that holds wherever a step begins
abbrev pub AtBegins : (ℕ → List Seen → Type 0) → List Line → Type 0
AtBegins P = Everywhere (BeginsAt P)

-- after the whole history this holds of each port of node n, at its tick at the true time t
abbrev pub AtEnd : (ℕ → List Seen → Type 0) → Setting → ℕ → ℕ → List Line → Type 0
AtEnd P setting t n world = (q : Port) → P (setting.tick n t) (view q (of n world))

-- where a step of a node begins, each of its ports was watched
abbrev pub AttendedAt : ℕ → Line → List Line → Type 0
AttendedAt late = BeginsAt (Watched late)

-- each node is looked at, at most `late` ticks after one of its alarms or sends is due
abbrev pub Attended : ℕ → List Line → Type 0
Attended late = AtBegins (Watched late)

-- the history is told up to the true time t: node n was watched until then
abbrev pub Told : ℕ → Setting → ℕ → ℕ → List Line → Type 0
Told late = AtEnd (Watched late)
