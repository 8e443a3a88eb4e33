-- The promise that no port backs two candidates within HOLD ticks.
use Rattle.std.specs.Prelude.{◌≡◌, ◌≤◌, ◌⊎◌, ℕ, ◌+◌, false, List, ◌∷◌, Option, Some}
use Rattle.tsp_rules.specs.Values.{Post, Back, Message, Accept, Election, PeerId, Place, Peer, Stranger, Port, HOLD}
use Rattle.tsp_base.specs.Words.{Begins, Acts, Line, of, view, MessageValue, Within}
use Rattle.tsp_promises.specs.{Everywhere.Everywhere, Fits.node_of, StepFacts.backed, StepFacts.is_unbacked}

-- of two Backs of a node on one port for different candidates, the later comes at least HOLD ticks (60 s) after the
-- earlier, even if the node boots between
abbrev pub HoldsAt : Line → List Line → Type 0
HoldsAt l world = (p q : PeerId) (other : Line) (older : List Line) → l.did.deed ≡ Acts (Back p) → Within (other ∷ older) world → node_of other ≡ node_of l →
    other.port ≡ l.port →
    other.did.deed ≡ Acts (Back q) → (q ≡ p) ⊎ (other.did.tick + HOLD ≤ l.did.tick)

-- this addressee is the candidate that was backed: nobody backs a stranger
abbrev pub IsBacked : Place → Option PeerId → Type 0
IsBacked (Peer p) backed = backed ≡ Some p
IsBacked Stranger backed = ⊥

-- in the step of each ACCEPT its addressee was backed before, so a stranger gets none; a port that became a candidate
-- has backed itself before it posts an ELECTION, and at the end of its step
pub record BacksAt (l : Line) (world : List Line) : Type 0 where
  pub accepts : (to : Place) (m : MessageValue) → l.did.deed ≡ Acts (Post to (Message m)) → m.kind ≡ Accept →
      IsBacked to (backed (view l.port (of (node_of l) world)))
  pub asks : (to : Place) (m : MessageValue) → l.did.deed ≡ Acts (Post to (Message m)) → m.kind ≡ Election → is_unbacked (view l.port (of (node_of l) world)) ≡
      false
  pub ends : l.did.deed ≡ Begins → (q : Port) → is_unbacked (view q (of (node_of l) world)) ≡ false

-- both hold at each line of a history that ends with a step, and at its end each candidate has backed itself
pub record OneBack (world : List Line) : Type 0 where
  pub holds : Everywhere HoldsAt world
  pub backs : Everywhere BacksAt world
  pub ends : (n : ℕ) (q : Port) → is_unbacked (view q (of n world)) ≡ false
