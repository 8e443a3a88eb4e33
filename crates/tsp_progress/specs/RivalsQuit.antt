-- A master sends each rival away in time, and a master that is sent away follows.
use Rattle.std.specs.Prelude.{◌≡◌, ◌≤◌, ◌<◌, ℕ, ◌+◌, Bool, List, ◌∷◌}
use Rattle.tsp_rules.specs.Values.{Ack, Event, Message, PeerId, Peer, Port, Post, Quit, QuitKind, SLACK}
use Rattle.tsp_base.specs.Words.{Acts, HeaderValue, Line, Within, bare, role}
use Rattle.tsp_promises.specs.{Fits.node_of, Setting.Setting}
use Rattle.tsp_run.specs.Clocked.{Clocks, PossibleBy, SetByClocks, run_by}
use Rattle.tsp_run.specs.{Possible.Possible, Run.run, Setting.SetBy}
use Rattle.tsp_progress.specs.{Delivered.Delivered, Heeds.follow_acts, Heeds.is_master_role, Heeds.posts_bare, ReachesInTime.ReachesAs}
use Rattle.tsp_progress.specs.{RivalsFound.RivalKnown, Watched.Attended, Watched.Told}
use Rattle.tsp_progress.specs.MastersTell.{LeadsOn, OtherMember}

-- after the place `early` the port sends p away, when its Resolve is due: at most `late` after the tick `at`
pub record SendsAwayBy (late at n : ℕ) (q : Port) (p : PeerId) (early world : List Line) : Type 0 where
  pub line : Line
  pub before : List Line
  pub place : Within (line ∷ before) world
  pub since : Within early before
  pub node : node_of line ≡ n
  pub port : line.port ≡ q
  pub number : ℕ
  pub name : List ℕ
  pub deed : line.did.deed ≡ Acts (Post (Peer p) (Message (bare QuitKind number name)))
  pub due : at ≤ line.did.tick
  pub soon : line.did.tick ≤ at + late

-- so does a master that knows a rival while its Resolve is armed for that tick, if the history is told for longer than that
abbrev pub RivalsQuit : Setting → ℕ → ℕ → List Line → Type 0
RivalsQuit setting late t world = (at n : ℕ) (q : Port) (p : PeerId) (l : Line) (older : List Line) → node_of l ≡ n → LeadsOn n q (l ∷ older) world →
    OtherMember setting n q p → RivalKnown p at n q (l ∷ older) world → at + late < setting.tick n t → Told late setting t n world →
    SendsAwayBy late at n q p (l ∷ older) world

-- in a possible run that is looked at within SLACK
abbrev pub RunsQuitRivals : Type 0
RunsQuitRivals = (header : HeaderValue) (setting : Setting) (events : List Event) (late t : ℕ) → SetBy header setting → Possible header events →
    Attended late (run header events) → late ≤ SLACK → RivalsQuit setting late t (run header events)

-- by any clocks
abbrev pub ClockedRunsQuitRivals : Type 0
ClockedRunsQuitRivals = (clocks : Clocks) (header : HeaderValue) (setting : Setting) (events : List Event) (late t : ℕ) → SetByClocks clocks header setting →
    PossibleBy clocks header events → Attended late (run_by clocks header events) → late ≤ SLACK → RivalsQuit setting late t (run_by clocks header events)

-- a QUIT reaches its addressee in time; if that is master then, it acknowledges it and follows the sender
abbrev pub QuitsStop : HeaderValue → Setting → ℕ → ℕ → (ℕ → Bool) → List Line → List Line → Type 0
QuitsStop = ReachesAs QuitKind (λ p m x past. is_master_role (role past.seen)) (λ p m x past. Quit p ∷ posts_bare Ack m.number past p ∷ follow_acts p x past)

-- in a run in which datagrams are delivered in time
abbrev pub RunsStopByQuit : Type 0
RunsStopByQuit = (header : HeaderValue) (setting : Setting) (events : List Event) (long t : ℕ) (stays : ℕ → Bool) (s : List Line) → SetBy header setting →
    Delivered setting long t stays s (run header events) → QuitsStop header setting long t stays s (run header events)

-- by any clocks
abbrev pub ClockedRunsStopByQuit : Type 0
ClockedRunsStopByQuit = (clocks : Clocks) (header : HeaderValue) (setting : Setting) (events : List Event) (long t : ℕ) (stays : ℕ → Bool) (s : List Line) →
    SetByClocks clocks header setting → Delivered setting long t stays s (run_by clocks header events) →
    QuitsStop header setting long t stays s (run_by clocks header events)
