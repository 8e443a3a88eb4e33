-- Beside a master no candidate wins.
use Rattle.std.specs.Prelude.{◌≡◌, ℕ, Bool, true, List}
use Rattle.tsp_rules.specs.Values.{Election, Message, PeerId, Event}
use Rattle.tsp_base.specs.Words.{HeaderValue, Line, MessageValue, of, peer_of, role, view}
use Rattle.tsp_promises.specs.{Fits.node_of, Setting.Setting}
use Rattle.tsp_run.specs.Clocked.{Clocks, PossibleBy, SetByClocks, run_by}
use Rattle.tsp_run.specs.{Possible.Possible, Run.run, Setting.SetBy}
use Rattle.tsp_progress.specs.AnswersInTime.{Asks, Meanwhile}
use Rattle.tsp_progress.specs.{Delivered.Delivered, FoundInTime.IsQuick, Heeds.is_candidate_role, Heeds.is_master_role, RefusedLoses.WinsAfter}
use Rattle.tsp_progress.specs.{SentAway.has_no_quit}

-- a candidate that asks a port for its vote, which is master meanwhile and isn't sending it away yet, doesn't win
abbrev pub NoSecondMaster : HeaderValue → Setting → ℕ → ℕ → (ℕ → Bool) → List Line → List Line → Type 0
NoSecondMaster header setting long t stays s world = (l : Line) (older : List Line) (p : PeerId) (m : MessageValue) →
    Asks setting long t stays s l older world p (Message m) → m.kind ≡ Election → is_candidate_role (role (view l.port (of (node_of l) older))) ≡ true →
    Meanwhile header setting long l older world p (λ x past. is_master_role (role past.seen)) →
    Meanwhile header setting long l older world p (has_no_quit (peer_of (node_of l))) → (c : Line) (before : List Line) → ¬ WinsAfter l older c before world

-- in a possible run in which datagrams are delivered in time
abbrev pub RunsLeadAlone : Type 0
RunsLeadAlone = (header : HeaderValue) (setting : Setting) (events : List Event) (long t : ℕ) (stays : ℕ → Bool) (s : List Line) → SetBy header setting →
    Possible header events → Delivered setting long t stays s (run header events) → IsQuick setting long →
    NoSecondMaster header setting long t stays s (run header events)

-- by any clocks
abbrev pub ClockedRunsLeadAlone : Type 0
ClockedRunsLeadAlone = (clocks : Clocks) (header : HeaderValue) (setting : Setting) (events : List Event) (long t : ℕ) (stays : ℕ → Bool) (s : List Line) →
    SetByClocks clocks header setting → PossibleBy clocks header events → Delivered setting long t stays s (run_by clocks header events) →
    IsQuick setting long → NoSecondMaster header setting long t stays s (run_by clocks header events)
