-- A master tells each other member of its network that it is one, again and again.
use Rattle.std.specs.Prelude.{◌≡◌, ◌≤◌, ◌<◌, ℕ, ◌+◌, ◌==◌, true, false, List, [], ◌∷◌}
use Rattle.tsp_rules.specs.Values.{Event, MasterUp, Message, Master, PeerId, Peer, Port, Post, ROUND, SLACK}
use Rattle.tsp_rules.specs.GateRows.{other_ports}
use Rattle.tsp_base.specs.Words.{Acts, HeaderValue, Line, Within, bare, is_among, of, role, view}
use Rattle.tsp_promises.specs.{Fits.node_of, Setting.Setting}
use Rattle.tsp_run.specs.Clocked.{Clocks, PossibleBy, SetByClocks, run_by}
use Rattle.tsp_run.specs.{Possible.Possible, Run.run, Setting.SetBy}
use Rattle.tsp_progress.specs.{ByTable.node_in, FoundInTime.Changed, Watched.Attended, Watched.Told}

-- q is the only port of node n
abbrev pub HasOnePort : HeaderValue → ℕ → Port → Type 0
HasOnePort header n q = other_ports q (node_in header n) ≡ []

-- at the place `early` of the history port q of node n is master, and its role doesn't change after that
pub record LeadsOn (n : ℕ) (q : Port) (early world : List Line) : Type 0 where
  pub place : Within early world
  pub master : role (view q (of n early)) ≡ Master
  pub stays : ¬ Changed (view q (of n early)) (view q (of n world))

-- p is another member of the network of port q of node n
pub record OtherMember (setting : Setting) (n : ℕ) (q : Port) (p : PeerId) : Type 0 where
  pub member : is_among p (setting.members (setting.net n q)) ≡ true
  pub other : (p.0 == n) ≡ false

-- after tick x, and at most ROUND ticks (240 s) and `late` after it, the port tells p that it is master
pub record TellsWithin (late x n : ℕ) (q : Port) (p : PeerId) (early world : List Line) : Type 0 where
  pub line : Line
  pub before : List Line
  pub place : Within (line ∷ before) world
  pub since : Within early before
  pub node : node_of line ≡ n
  pub port : line.port ≡ q
  pub name : List ℕ
  pub deed : line.did.deed ≡ Acts (Post (Peer p) (Message (bare MasterUp 0 name)))
  pub after : x < line.did.tick
  pub soon : line.did.tick ≤ x + (ROUND + late)

-- so does each master whose node has no other port, after each tick x from the time of the line l on, if the history is told for longer than that
abbrev pub MastersTell : HeaderValue → Setting → ℕ → ℕ → List Line → Type 0
MastersTell header setting late t world = (n x : ℕ) (q : Port) (p : PeerId) (l : Line) (older : List Line) → HasOnePort header n q →
    LeadsOn n q (l ∷ older) world → OtherMember setting n q p → setting.tick n l.did.step.at ≤ x → x + (ROUND + late) < setting.tick n t →
    Told late setting t n world → TellsWithin late x n q p (l ∷ older) world

-- in a possible run that is looked at within SLACK
abbrev pub RunsTell : Type 0
RunsTell = (header : HeaderValue) (setting : Setting) (events : List Event) (late t : ℕ) → SetBy header setting → Possible header events →
    Attended late (run header events) → late ≤ SLACK → MastersTell header setting late t (run header events)

-- by any clocks
abbrev pub ClockedRunsTell : Type 0
ClockedRunsTell = (clocks : Clocks) (header : HeaderValue) (setting : Setting) (events : List Event) (late t : ℕ) → SetByClocks clocks header setting →
    PossibleBy clocks header events → Attended late (run_by clocks header events) → late ≤ SLACK →
    MastersTell header setting late t (run_by clocks header events)
