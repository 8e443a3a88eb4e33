-- A candidate that is refused in time doesn't win.
use Rattle.std.specs.Prelude.{◌≡◌, ℕ, Bool, List, ◌∷◌}
use Rattle.tsp_rules.specs.Values.{Become, Election, Master, Message, PeerId, Event}
use Rattle.tsp_base.specs.Words.{Acts, Did, HeaderValue, Here, Line, MessageValue, Seen, Within, of, peer_of, stood, view}
use Rattle.tsp_promises.specs.{Fits.node_of, Setting.Setting}
use Rattle.tsp_run.specs.Clocked.{Clocks, PossibleBy, SetByClocks, run_by}
use Rattle.tsp_run.specs.{Possible.Possible, Run.run, Setting.SetBy}
use Rattle.tsp_progress.specs.AckedInTime.{Begins, EndedBefore, IsPrompt, refuses_vote}
use Rattle.tsp_progress.specs.AnswersInTime.{Asks, Meanwhile}
use Rattle.tsp_progress.specs.{Delivered.Delivered, Heeds.is_candidate_role}

-- at the line c the port of the line l wins the candidature in which it stood when it posted there, at that tick
pub record WinsAfter (l : Line) (older : List Line) (c : Line) (before world : List Line) : Type 0 where
  pub place : Within (c ∷ before) world
  pub later : Within (l ∷ older) before
  pub node : node_of c ≡ node_of l
  pub port : c.port ≡ l.port
  pub wins : c.did.deed ≡ Acts (Become Master)
  pub start : Did
  pub idle : List Seen
  pub stood_then : stood (view l.port (of (node_of l) older)) ≡ Here start ∷ idle
  pub stood_still : stood (view l.port (of (node_of l) before)) ≡ Here start ∷ idle
  pub tick : l.did.tick ≡ start.tick

-- if a candidate wins that asked p for its vote, which p refuses meanwhile, then that send ended otherwise before
abbrev pub RefusedLoses : HeaderValue → Setting → ℕ → ℕ → (ℕ → Bool) → List Line → List Line → Type 0
RefusedLoses header setting long t stays s world = (l : Line) (older : List Line) (p : PeerId) (m : MessageValue) →
    Asks setting long t stays s l older world p (Message m) → m.kind ≡ Election → Begins is_candidate_role l older →
    Meanwhile header setting long l older world p (refuses_vote (peer_of (node_of l))) →
    (c : Line) (before : List Line) → WinsAfter l older c before world →
    EndedBefore p (Here l.did ∷ view l.port (of (node_of l) older)) (view l.port (of (node_of l) before))

-- in a possible run in which datagrams are delivered in time
abbrev pub RunsRefuse : Type 0
RunsRefuse = (header : HeaderValue) (setting : Setting) (events : List Event) (long t : ℕ) (stays : ℕ → Bool) (s : List Line) → SetBy header setting →
    Possible header events → Delivered setting long t stays s (run header events) → IsPrompt setting long →
    RefusedLoses header setting long t stays s (run header events)

-- by any clocks
abbrev pub ClockedRunsRefuse : Type 0
ClockedRunsRefuse = (clocks : Clocks) (header : HeaderValue) (setting : Setting) (events : List Event) (long t : ℕ) (stays : ℕ → Bool) (s : List Line) →
    SetByClocks clocks header setting → PossibleBy clocks header events → Delivered setting long t stays s (run_by clocks header events) →
    IsPrompt setting long → RefusedLoses header setting long t stays s (run_by clocks header events)
