-- A candidate beside a master is sent away in time, and a QUIT is acknowledged in time.
use Rattle.std.specs.Prelude.{◌≡◌, ℕ, Bool, true, false, if◌then◌else◌, List, [], ◌∷◌}
use Rattle.tsp_rules.specs.Values.{Quit, Acked, Ack, Election, QuitKind, Message, PeerId, Event}
use Rattle.tsp_rules.specs.SendRows.{has_other, has_quit}
use Rattle.tsp_base.specs.Words.{HeaderValue, Line, MessageValue, Past, bare, of, peer_of, role}
use Rattle.tsp_promises.specs.{Fits.node_of, Setting.Setting}
use Rattle.tsp_run.specs.Clocked.{Clocks, SetByClocks, run_by}
use Rattle.tsp_run.specs.{Run.run, Setting.SetBy}
use Rattle.tsp_progress.specs.AnswersInTime.{AnswerTaken, Asks, Meanwhile}
use Rattle.tsp_progress.specs.{ByTable.node_in, ByTable.port_before, Delivered.Delivered}
use Rattle.tsp_progress.specs.Heeds.{DoesNext, follow_acts, has_no_master, is_master_role, is_up_role, posts_bare}

-- the past of the port of node n when it takes something at this line
abbrev pub past_there : HeaderValue → ℕ → Line → List Line → Past
past_there header n line before = port_before (node_in header n) line (of n before)

-- the port that asked at l hears from p, at most twice `long` later, that it is sent away; then it follows p, if it has no other master
pub record SentAway (header : HeaderValue) (long : ℕ) (l : Line) (older world : List Line) (p : PeerId) : Type 0 where
  pub number : ℕ
  pub answer : AnswerTaken long l older world p (Message (bare QuitKind number (node_in header p.0).name))
  pub follows : has_no_master (role (past_there header (node_of l) answer.line answer.before).seen) ≡ true →
      DoesNext (Quit p ∷ posts_bare Ack number (past_there header (node_of l) answer.line answer.before) p ∷
      follow_acts p answer.line.did.tick (past_there header (node_of l) answer.line answer.before)) answer.line (of (node_of l) answer.before)
      (of (node_of l) world)

-- the port that sent the QUIT takes its acknowledgment at most twice `long` later; that ends the send, if it is open then
pub record QuitEnds (header : HeaderValue) (long : ℕ) (l : Line) (older world : List Line) (p : PeerId) (number : ℕ) : Type 0 where
  pub answer : AnswerTaken long l older world p (Message (bare Ack number (node_in header p.0).name))
  pub ends : is_up_role (role (past_there header (node_of l) answer.line answer.before).seen) ≡ true →
      has_other p number answer.line.did.tick (past_there header (node_of l) answer.line answer.before) ≡ true →
      DoesNext (Acked p ∷ []) answer.line (of (node_of l) answer.before) (of (node_of l) world)

-- whether no QUIT to this peer is open
abbrev pub has_no_quit : PeerId → ℕ → Past → Bool
has_no_quit p x past = if has_quit p x past then false else true

pub record SendsAwayInTime (header : HeaderValue) (setting : Setting) (long t : ℕ) (stays : ℕ → Bool) (s world : List Line) : Type 0 where
  -- a candidate that asks a port for its vote, which is master meanwhile and isn't sending it away yet
  pub candidates : (l : Line) (older : List Line) (p : PeerId) (m : MessageValue) → Asks setting long t stays s l older world p (Message m) →
      m.kind ≡ Election → Meanwhile header setting long l older world p (λ x past. is_master_role (role past.seen)) →
      Meanwhile header setting long l older world p (has_no_quit (peer_of (node_of l))) → SentAway header long l older world p
  -- a QUIT, to a port that isn't Starting meanwhile
  pub quits : (l : Line) (older : List Line) (p : PeerId) (m : MessageValue) → Asks setting long t stays s l older world p (Message m) →
      m.kind ≡ QuitKind → Meanwhile header setting long l older world p (λ x past. is_up_role (role past.seen)) →
      QuitEnds header long l older world p m.number

-- in a run in which datagrams are delivered in time
abbrev pub RunsSendAway : Type 0
RunsSendAway = (header : HeaderValue) (setting : Setting) (events : List Event) (long t : ℕ) (stays : ℕ → Bool) (s : List Line) → SetBy header setting →
    Delivered setting long t stays s (run header events) → SendsAwayInTime header setting long t stays s (run header events)

-- by any clocks
abbrev pub ClockedRunsSendAway : Type 0
ClockedRunsSendAway = (clocks : Clocks) (header : HeaderValue) (setting : Setting) (events : List Event) (long t : ℕ) (stays : ℕ → Bool) (s : List Line) →
    SetByClocks clocks header setting → Delivered setting long t stays s (run_by clocks header events) →
    SendsAwayInTime header setting long t stays s (run_by clocks header events)
