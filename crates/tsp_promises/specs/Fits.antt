-- Histories that fit: each line has what a schedule gives it, and does what it owes to the lines before it.
use Rattle.std.specs.Prelude.{◌≡◌, ◌≤◌, ◌<◌, ℕ, ◌+◌, ◌^◌, ◌==◌, ◌||◌, pos, ◌+ℤ◌, true, List, [], ◌∷◌}
use Rattle.tsp_rules.specs.Values.{Boot, Took, Post, Datagram, Taken, Good, Place, Peer, Port}
use Rattle.tsp_base.specs.Words.{Cause, Booted, Turned, Came, Handed, Step, Deed, Begins, Acts, Did, Line, of, dids, lives, view, is_shared, time_of, up}
use Rattle.tsp_base.specs.Words.{Within, peer_of, posted}
use Rattle.tsp_promises.specs.{DeedFits.DeedFits, Everywhere.Everywhere, Setting.Setting, Setting.setup_of, StepFacts.StepEnds}

-- the node of a line
abbrev pub node_of : Line → ℕ
node_of l = l.did.step.node

-- port q sees the line as its own: it is on q, or a mark or a boot, which every port of a node sees
abbrev pub Sees : Port → Line → Type 0
Sees q l = ((l.port.0 == q.0) || is_shared l.did.deed) ≡ true

-- each line but a mark is in the step of the line before it; a mark begins a new step
abbrev pub SameStep : Deed → Step → List Did → Type 0
SameStep Begins step world = Unit {0}
SameStep (Acts a) step [] = ⊥
SameStep (Acts a) step (last ∷ before) = last.step ≡ step

-- a boot is in a step that a boot causes, which has the node's wall clock then, in microseconds, of the life that begins; all other
-- acts are those of a node that has booted
abbrev pub Alive : Setting → Deed → Did → List Did → Type 0
Alive setting Begins here before = Unit {0}
Alive setting (Acts Boot) here before =
    (word : ℕ) × (here.step.cause ≡ Booted word (setting.wall here.step.node (lives before + 1) +ℤ pos here.tick))
Alive setting (Acts a) here before = up before ≡ true

-- the datagram number k, counted from 0 over all nodes, was posted to this line's node, on the network of its port, by
-- the sender and with the content that the line says
pub record Posted (setting : Setting) (l : Line) (world : List Line) (k : ℕ) (from : Place) (taken : Taken) : Type 0 where
  pub post : Line
  pub older : List Line
  pub place : Within (post ∷ older) world
  pub number : posted (dids older) ≡ k
  pub datagram : Datagram
  pub deed : post.did.deed ≡ Acts (Post (Peer (peer_of (node_of l))) datagram)
  pub net : setting.net (node_of post) post.port ≡ setting.net (node_of l) l.port
  pub from_is : from ≡ Peer (peer_of (node_of post))
  pub taken_is : taken ≡ Good datagram

-- what a node may take, by the cause of its step: the datagram that came, as it was posted; any octets that were handed
-- to it from outside; and nothing at a boot or at a look at its timers
abbrev pub TookFits : Cause → Setting → Line → List Line → Place → Taken → Type 0
TookFits (Came k) setting l world from taken = Posted setting l world k from taken
TookFits Handed setting l world from taken = Unit {0}
TookFits (Booted word wall) setting l world from taken = ⊥
TookFits Turned setting l world from taken = ⊥

-- a line fits the history before it: true time doesn't go back, its tick is its node's at that time, fewer than 2^64
-- datagrams were posted, and it does what it owes on each port that sees it
pub record LineFits (setting : Setting) (l : Line) (world : List Line) : Type 0 where
  pub order : time_of (dids world) ≤ l.did.step.at
  pub tick : l.did.tick ≡ setting.tick (node_of l) l.did.step.at
  pub few : posted (dids world) < 2 ^ 64
  pub step : SameStep l.did.deed l.did.step (dids world)
  pub alive : Alive setting l.did.deed l.did (dids (of (node_of l) world))
  pub took : (from : Place) (taken : Taken) → l.did.deed ≡ Acts (Took from taken) → TookFits l.did.step.cause setting l world from taken
  pub deeds : (q : Port) → Sees q l → DeedFits (setup_of setting (node_of l) q) l.did.deed l.did (view q (of (node_of l) world))

-- each line fits the history before it
abbrev pub Fits : Setting → List Line → Type 0
Fits setting = Everywhere (LineFits setting)

-- the history ends where a step ends: no port of any node owes anything there
abbrev pub Finished : Setting → List Line → Type 0
Finished setting world = (n : ℕ) (q : Port) → StepEnds (setup_of setting n q) (view q (of n world))
