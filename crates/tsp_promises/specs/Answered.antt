-- The promise that what is asked is answered, and that a stranger gets at most one answer for one datagram.
use Rattle.std.specs.Prelude.{◌≡◌, ◌≤◌, ◌⊎◌, ℕ, ◌+◌, Bool, true, false, List, [], ◌∷◌, None}
use Rattle.tsp_rules.specs.Values.{Took, Post, Quit, Datagram, Message, Stamp, Taken, Good, Kind, Ack, DateAck, QuitKind, PeerId, Place, Peer, Stranger, Port}
use Rattle.tsp_rules.specs.Values.{Request, Reply}
use Rattle.tsp_base.specs.Words.{Acts, Begins, Deed, Did, Line, dids, of, view, MessageValue, TakesFrom, heard}
use Rattle.tsp_promises.specs.{DeedFits.answer_name, Everywhere.Everywhere, Fits.node_of, Setting.Setting, Setting.setup_of}
use Rattle.tsp_promises.specs.StepFacts.{unacknowledged, unheeded}

-- a step takes one datagram at most, on whatever port
abbrev pub TakesOneAt : Line → List Line → Type 0
TakesOneAt l world = (from : Place) (taken : Taken) → l.did.deed ≡ Acts (Took from taken) → heard (dids (of (node_of l) world)) ≡ None

abbrev pub has_quit_after : Deed → Bool → Bool
has_quit_after Begins was = false
has_quit_after (Acts (Quit p)) was = true
has_quit_after _ was = was

-- whether this step has a Quit, on whatever port
abbrev pub has_quit : List Did → Bool
has_quit [] = false
has_quit (d ∷ before) = has_quit_after d.deed (has_quit before)

-- a Quit of p is the next deed of its node after the Took of a QUIT from p, on that port, and the only Quit of its step
pub record HeedsQuit (l : Line) (world : List Line) (p : PeerId) : Type 0 where
  pub took : Line
  pub older : List Line
  pub is : of (node_of l) world ≡ took ∷ older
  pub port : took.port ≡ l.port
  pub message : MessageValue
  pub deed : took.did.deed ≡ Acts (Took (Peer p) (Good (Message message)))
  pub kind : message.kind ≡ QuitKind
  pub only : has_quit (dids (of (node_of l) world)) ≡ false

abbrev pub QuitsAt : Line → List Line → Type 0
QuitsAt l world = (p : PeerId) → l.did.deed ≡ Acts (Quit p) → HeedsQuit l world p

-- at the end of each step, on each port: the QUIT of a peer that it took in that step, from another than its own node and
-- while it wasn't Starting, has its Quit after it
pub record Heeded (setting : Setting) (world : List Line) : Type 0 where
  pub marks : Everywhere (λ (l : Line) (before : List Line). l.did.deed ≡ Begins → (q : Port) →
      unheeded (setup_of setting (node_of l) q).peers (view q (of (node_of l) before)) ≡ None) world
  pub ends : (n : ℕ) (q : Port) → unheeded (setup_of setting n q).peers (view q (of n world)) ≡ None

-- at the end of each step, on each port: if the step has a Quit, an ACK with the QUIT's number was posted to its sender
-- after it
pub record Acknowledged (world : List Line) : Type 0 where
  pub marks : Everywhere (λ (l : Line) (before : List Line). l.did.deed ≡ Begins → (q : Port) → unacknowledged (view q (of (node_of l) before)) ≡ None) world
  pub ends : (n : ℕ) (q : Port) → unacknowledged (view q (of n world)) ≡ None

-- a datagram answers another: a stamp request is answered by a reply with its word and counter, and a message by an ACK
-- or a DATEACK with its number
abbrev pub AnswersWith : Datagram → Datagram → Type 0
AnswersWith (Stamp (Request word counter)) (Stamp (Reply reply)) = (reply.word ≡ word) × (reply.counter ≡ counter)
AnswersWith (Message asked) (Message answer) = ((answer.kind ≡ Ack) ⊎ (answer.kind ≡ DateAck)) × (answer.number ≡ asked.number)
AnswersWith _ _ = ⊥

abbrev pub acknowledges : Kind → Bool
acknowledges Ack = true
acknowledges DateAck = true
acknowledges _ = false

-- whether a datagram is an answer: a reply to a stamp request, an ACK or a DATEACK
abbrev pub is_answer : Datagram → Bool
is_answer (Stamp (Reply reply)) = true
is_answer (Stamp (Request word counter)) = false
is_answer (Message m) = acknowledges m.kind

-- the step has taken what this answers, on that port and from whom it is posted to
pub record AnswersAsked (to : Place) (l : Line) (world : List Line) (datagram : Datagram) : Type 0 where
  pub asked : Datagram
  pub took : TakesFrom (view l.port (of (node_of l) world)) to asked
  pub answer : AnswersWith asked datagram

-- each answer that is posted, to whomever, answers what its step has taken from there
abbrev pub AnswersAt : Line → List Line → Type 0
AnswersAt l world = (to : Place) (datagram : Datagram) → l.did.deed ≡ Acts (Post to datagram) → is_answer datagram ≡ true → AnswersAsked to l world datagram

abbrev pub has_answered_after : Deed → Bool → Bool
has_answered_after Begins was = false
has_answered_after (Acts (Post Stranger datagram)) was = true
has_answered_after _ was = was

-- whether this step has posted something to a stranger, on whatever port
abbrev pub has_answered : List Did → Bool
has_answered [] = false
has_answered (d ∷ before) = has_answered_after d.deed (has_answered before)

-- a post to a stranger answers the datagram that its step has taken from a stranger on that port, and is the only such
-- post of the step so far. A message's answer has the node's own name, but that of MSITE names the master that the port
-- knows of
pub record AnswersStranger (setting : Setting) (l : Line) (world : List Line) (datagram : Datagram) : Type 0 where
  pub asked : Datagram
  pub took : TakesFrom (view l.port (of (node_of l) world)) Stranger asked
  pub answer : AnswersWith asked datagram
  pub first : has_answered (dids (of (node_of l) world)) ≡ false
  pub named : (m message : MessageValue) → datagram ≡ Message m → asked ≡ Message message → m.name ≡
      answer_name message.kind (setup_of setting (node_of l) l.port) (view l.port (of (node_of l) world))

abbrev pub StrangersAt : Setting → Line → List Line → Type 0
StrangersAt setting l world = (datagram : Datagram) → l.did.deed ≡ Acts (Post Stranger datagram) → AnswersStranger setting l world datagram

abbrev pub to_strangers_after : Deed → ℕ → ℕ
to_strangers_after (Acts (Post Stranger datagram)) n = n + 1
to_strangers_after _ n = n

-- how many datagrams were posted to strangers
abbrev pub to_strangers : List Did → ℕ
to_strangers [] = 0
to_strangers (d ∷ before) = to_strangers_after d.deed (to_strangers before)

abbrev pub from_strangers_after : Deed → ℕ → ℕ
from_strangers_after (Acts (Took Stranger taken)) n = n + 1
from_strangers_after _ n = n

-- how many were taken from strangers, whatever they were read as
abbrev pub from_strangers : List Did → ℕ
from_strangers [] = 0
from_strangers (d ∷ before) = from_strangers_after d.deed (from_strangers before)

-- at each place, over all nodes together: no more datagrams were posted to strangers than were taken from them
abbrev pub OneForOneAt : Line → List Line → Type 0
OneForOneAt l world = to_strangers (dids (l ∷ world)) ≤ from_strangers (dids (l ∷ world))

-- all of them, of a history that ends with a step
pub record Answered (setting : Setting) (world : List Line) : Type 0 where
  pub takes_one : Everywhere TakesOneAt world
  pub quits : Everywhere QuitsAt world
  pub heeded : Heeded setting world
  pub acknowledged : Acknowledged world
  pub answers : Everywhere AnswersAt world
  pub strangers : Everywhere (StrangersAt setting) world
  pub one_for_one : Everywhere OneForOneAt world
