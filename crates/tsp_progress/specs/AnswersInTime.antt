-- What is asked of a node is answered, and the answer is taken, in time.
use Rattle.std.specs.Prelude.{◌≡◌, ◌≤◌, ◌<◌, ℕ, ◌+◌, ◌*◌, Bool, true, List, ◌∷◌}
use Rattle.tsp_rules.specs.Values.{Took, Good, Datagram, Message, Stamp, Request, Reply, PeerId, Peer, Kind, Ack, Election, MasterAck, MasterReq, QuitKind}
use Rattle.tsp_rules.specs.Values.{Refuse, ResolveKind, Event}
use Rattle.tsp_rules.specs.Guards.{is_in_range}
use Rattle.tsp_base.specs.Words.{Acts, HeaderValue, Line, MessageValue, Past, ReplyValue, Within, bare, of, role}
use Rattle.tsp_promises.specs.{Fits.node_of, Setting.Setting}
use Rattle.tsp_run.specs.Clocked.{Clocks, SetByClocks, run_by}
use Rattle.tsp_run.specs.{Run.run, Setting.SetBy}
use Rattle.tsp_progress.specs.{ByTable.node_in, ByTable.port_before, Delivered.Delivered, Delivered.PostsTo, Heeds.is_candidate_role, Heeds.is_master_role}
use Rattle.tsp_progress.specs.Heeds.{is_up_role}

-- at the line l, which is after the place s, its node posts datagram d to p; both stay, and the true time t is later by twice `long`
pub record Asks (setting : Setting) (long t : ℕ) (stays : ℕ → Bool) (s : List Line) (l : Line) (older world : List Line) (p : PeerId) (d : Datagram) : Type 0
  where
    pub posts : PostsTo setting l older world p d
    pub since : Within s older
    pub there : stays p.0 ≡ true
    pub here : stays (node_of l) ≡ true
    pub early : l.did.step.at + 2 * long < t

-- this is so of p's port on the network of the line l, whenever it takes something after that, at most `long` later
abbrev pub Meanwhile : HeaderValue → Setting → ℕ → Line → List Line → List Line → PeerId → (ℕ → Past → Bool) → Type 0
Meanwhile header setting long l older world p test = (line : Line) (before : List Line) → Within (line ∷ before) world → Within (l ∷ older) before →
    node_of line ≡ p.0 → setting.net (node_of line) line.port ≡ setting.net (node_of l) l.port → line.did.step.at ≤ l.did.step.at + long →
    test line.did.tick (port_before (node_in header p.0) line (of p.0 before)) ≡ true

-- the port that posted at l takes datagram d of p after that, at most twice `long` later
pub record AnswerTaken (long : ℕ) (l : Line) (older world : List Line) (p : PeerId) (d : Datagram) : Type 0 where
  pub line : Line
  pub before : List Line
  pub place : Within (line ∷ before) world
  pub later : Within (l ∷ older) before
  pub node : node_of line ≡ node_of l
  pub port : line.port ≡ l.port
  pub took : line.did.deed ≡ Acts (Took (Peer p) (Good d))
  pub soon : line.did.step.at ≤ l.did.step.at + 2 * long

-- a question of this kind, to a port for which this is so meanwhile, is answered so in time
abbrev pub Answered : Kind → (ℕ → Past → Bool) → Kind → HeaderValue → Setting → ℕ → ℕ → (ℕ → Bool) → List Line → List Line → Type 0
Answered kind test answer header setting long t stays s world = (l : Line) (older : List Line) (p : PeerId) (m : MessageValue) →
    Asks setting long t stays s l older world p (Message m) → m.kind ≡ kind → Meanwhile header setting long l older world p test →
    AnswerTaken long l older world p (Message (bare answer m.number (node_in header p.0).name))

pub record AnswersInTime (header : HeaderValue) (setting : Setting) (long t : ℕ) (stays : ℕ → Bool) (s world : List Line) : Type 0 where
  -- a stamp request is answered, if the clock's target is in its range
  pub stamps : (l : Line) (older : List Line) (p : PeerId) (word counter : ℕ) → Asks setting long t stays s l older world p (Stamp (Request word counter)) →
      Meanwhile header setting long l older world p is_in_range →
      (r : ReplyValue) × ((r.word ≡ word) × ((r.counter ≡ counter) × AnswerTaken long l older world p (Stamp (Reply r))))
  -- who searches for a master hears of it, and so does a master that asks for rivals
  pub masterreq : Answered MasterReq (λ x past. is_master_role (role past.seen)) MasterAck header setting long t stays s world
  pub resolve : Answered ResolveKind (λ x past. is_master_role (role past.seen)) MasterAck header setting long t stays s world
  -- a QUIT is acknowledged, if its addressee isn't Starting
  pub quit : Answered QuitKind (λ x past. is_up_role (role past.seen)) Ack header setting long t stays s world
  -- another candidate refuses
  pub election : Answered Election (λ x past. is_candidate_role (role past.seen)) Refuse header setting long t stays s world

-- in a run in which datagrams are delivered in time
abbrev pub RunsAnswer : Type 0
RunsAnswer = (header : HeaderValue) (setting : Setting) (events : List Event) (long t : ℕ) (stays : ℕ → Bool) (s : List Line) → SetBy header setting →
    Delivered setting long t stays s (run header events) → AnswersInTime header setting long t stays s (run header events)

-- by any clocks
abbrev pub ClockedRunsAnswer : Type 0
ClockedRunsAnswer = (clocks : Clocks) (header : HeaderValue) (setting : Setting) (events : List Event) (long t : ℕ) (stays : ℕ → Bool) (s : List Line) →
    SetByClocks clocks header setting → Delivered setting long t stays s (run_by clocks header events) →
    AnswersInTime header setting long t stays s (run_by clocks header events)
