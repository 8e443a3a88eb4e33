-- In a network that follows its master, a follower's clock is moved by its master alone.
use Rattle.std.specs.Prelude.{◌≡◌, ◌≤◌, ℕ, ◌+◌, ◌==◌, ℤ, Bool, true, false, List, ◌∷◌}
use Rattle.tsp_rules.specs.Values.{Correct, Event, Message, Peer, Post}
use Rattle.tsp_base.specs.Words.{Acts, HeaderValue, Line, MessageValue, Within, dids, first_port, is_correction, of, peer_of, ticket}
use Rattle.tsp_promises.specs.{Fits.node_of, Setting.Setting}
use Rattle.tsp_run.specs.Clocked.{Clocks, PossibleBy, SetByClocks, run_by}
use Rattle.tsp_run.specs.{Possible.Possible, Run.run, Setting.SetBy}
use Rattle.tsp_progress.specs.FollowOn.{AfterPlace, Calm, FollowUntil}

-- a correction of node c was posted to the line's node, with the clock's ticket as its number, at most `long` before the line
pub record FromMaster (long c : ℕ) (l : Line) (older : List Line) : Type 0 where
  pub post : Line
  pub before : List Line
  pub place : Within (post ∷ before) older
  pub node : node_of post ≡ c
  pub message : MessageValue
  pub deed : post.did.deed ≡ Acts (Post (Peer (peer_of (node_of l))) (Message message))
  pub kind : is_correction message.kind ≡ true
  pub number : message.number ≡ ticket (dids (of (node_of l) older))
  pub soon : l.did.step.at ≤ post.did.step.at + long

-- so it is before each Correct of a node that follows c, after the place s and as long as all do
abbrev pub MovedByMaster : ℕ → ℕ → ℕ → List Line → List Line → Type 0
MovedByMaster long t c s world = AfterPlace s world (λ l older. l.did.step.at ≤ t → (node_of l == c) ≡ false → l.port ≡ first_port →
    (amount : ℤ) (stepped : Bool) (shown : ℤ) → l.did.deed ≡ Acts (Correct amount stepped shown) → FromMaster long c l older)

-- in a possible run that is calm after the place s
abbrev pub RunsMoveByMaster : Type 0
RunsMoveByMaster = (header : HeaderValue) (setting : Setting) (events : List Event) (long t : ℕ) (stays : ℕ → Bool) (c : ℕ) (s : List Line) →
    SetBy header setting → Possible header events → Calm long stays s (run header events) → FollowUntil stays c t s (run header events) →
    MovedByMaster long t c s (run header events)

-- by any clocks
abbrev pub ClockedRunsMoveByMaster : Type 0
ClockedRunsMoveByMaster =
    (clocks : Clocks) (header : HeaderValue) (setting : Setting) (events : List Event) (long t : ℕ) (stays : ℕ → Bool) (c : ℕ) (s : List Line) →
    SetByClocks clocks header setting → PossibleBy clocks header events → Calm long stays s (run_by clocks header events) →
    FollowUntil stays c t s (run_by clocks header events) → MovedByMaster long t c s (run_by clocks header events)
