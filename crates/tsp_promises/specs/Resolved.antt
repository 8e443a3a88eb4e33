-- The promise that a master that takes a QUIT stops being master, and how it comes to follow the sender.
use Rattle.std.specs.Prelude.{◌≡◌, ◌≢◌, ◌≤◌, ℕ, ◌+◌, true, List, ◌∷◌, Some}
use Rattle.tsp_rules.specs.Values.{Post, Become, Ring, Quit, ResolveAlarm, Message, QuitKind, PeerId, Peer, Port, Follow, Master, ELECT_MIN}
use Rattle.tsp_base.specs.Words.{Came, Begins, Acts, Did, Line, Seen, Here, of, dids, plain, view, MessageValue, is_among, Within, role, peer_of, posted, steps}
use Rattle.tsp_promises.specs.{Everywhere.Everywhere, Fits.node_of, Once.OfSend, Premises.Life, Setting.Setting, Setting.setup_of}
use Rattle.tsp_promises.specs.StepFacts.{owes, quits_master}

-- at the end of a step the port follows each peer of which it put a Quit in that step as a master
abbrev pub YieldsAt : List Seen → Type 0
YieldsAt seen = (p : PeerId) → is_among p (owes seen) ≡ true → role seen ≡ Follow p

-- YieldsAt holds at the end of each step: before each mark, and at the end of the history
pub record Yields (world : List Line) : Type 0 where
  pub marks : Everywhere (λ (l : Line) (before : List Line). l.did.deed ≡ Begins → (q : Port) → YieldsAt (view q (of (node_of l) before))) world
  pub ends : (n : ℕ) (q : Port) → YieldsAt (view q (of n world))

-- at the end of a step the port, of which these are the peers, follows the peer whose QUIT it took in that step as a
-- master, whatever it did then
abbrev pub YieldsTakenAt : List PeerId → List Seen → Type 0
YieldsTakenAt peers seen = (p : PeerId) → quits_master peers seen ≡ Some p → role seen ≡ Follow p

-- so it is at the end of each step
pub record YieldsTaken (setting : Setting) (world : List Line) : Type 0 where
  pub marks : Everywhere (λ (l : Line) (before : List Line). l.did.deed ≡ Begins → (q : Port) →
      YieldsTakenAt (setup_of setting (node_of l) q).peers (view q (of (node_of l) before))) world
  pub ends : (n : ℕ) (q : Port) → YieldsTakenAt (setup_of setting n q).peers (view q (of n world))

-- after a Quit a port doesn't become master for ELECT_MIN ticks (300 s), even if its node boots between
abbrev pub QuietAt : Line → List Line → Type 0
QuietAt l world = (other : Line) (older : List Line) (p : PeerId) → l.did.deed ≡ Acts (Become Master) → Within (other ∷ older) world → node_of other ≡
    node_of l → other.port ≡ l.port →
    other.did.deed ≡ Acts (Quit p) → other.did.tick + ELECT_MIN ≤ l.did.tick

abbrev pub StaysQuiet : List Line → Type 0
StaysQuiet = Everywhere QuietAt

-- at line x a node heeds a QUIT whose send began in the step of the alarm at the line ring: x is its Quit, and its step
-- takes a post of that send
pub record TakesQuit (ring : Line) (past : List Line) (x : Line) (xpast : List Line) : Type 0 where
  pub quits : x.did.deed ≡ Acts (Quit (peer_of (node_of ring)))
  pub post : Line
  pub older : List Line
  pub place : Within (post ∷ older) xpast
  pub takes : x.did.step.cause ≡ Came (posted (dids older))
  pub node : node_of post ≡ node_of ring
  pub first : Did
  pub begun : List Seen
  pub of_send : OfSend (node_of x) post older first begun
  pub message : MessageValue
  pub deed : first.deed ≡ Acts (Post (Peer (peer_of (node_of x))) (Message message))
  pub kind : message.kind ≡ QuitKind
  -- it begins in the alarm's step
  pub step : steps (plain begun) ≡ steps (dids (of (node_of ring) (ring ∷ past)))

-- at the end of a step in which the rival y takes a QUIT of this alarm: no rival x that has taken one is a master on
-- the port on which it took it
abbrev pub StopsBy : List Line → Type 0
StopsBy h = (ring x y : Line) (past xpast ypast : List Line) → Within (ring ∷ past) h → ring.did.deed ≡ Acts (Ring ResolveAlarm) → Within (x ∷ xpast) h →
    TakesQuit ring past x xpast →
    Within (y ∷ ypast) h → TakesQuit ring past y ypast → steps (dids (y ∷ ypast)) ≡ steps (dids h) → role (view x.port (of (node_of x) h)) ≢ Master

-- StopsBy holds at the end of each step: before each mark, and at the end of the history
pub record StopsLeading (world : List Line) : Type 0 where
  pub marks : Everywhere (λ (l : Line) (before : List Line). l.did.deed ≡ Begins → StopsBy before) world
  pub ends : StopsBy world

-- the parts, of a history that ends with a step; the last needs that no datagram outlives LIFE
pub record Resolved (setting : Setting) (h : List Line) : Type 0 where
  pub yields : Yields h
  pub yields_taken : YieldsTaken setting h
  pub quiet : StaysQuiet h
  pub stops : Life h → StopsLeading h

-- in this step the port became a follower of p, after it took the QUIT of p as a master
pub record Became (seen : List Seen) (p : PeerId) : Type 0 where
  pub did : Did
  pub before : List Seen
  pub place : Within (Here did ∷ before) seen
  pub deed : did.deed ≡ Acts (Become (Follow p))
  pub after : is_among p (owes before) ≡ true

-- whoever follows p at the end of a step in which it took the QUIT of p as a master became p's follower in that step,
-- after the QUIT
abbrev pub BecomesAfter : Type 0
BecomesAfter = (seen : List Seen) (p : PeerId) → is_among p (owes seen) ≡ true → role seen ≡ Follow p → Became seen p
