-- What backings, votes and changes of the role owe to their port's past.
use Rattle.std.specs.Prelude.{◌≡◌, ◌≢◌, ◌≤◌, ◌<◌, ◌⊎◌, ℕ, ◌+◌, ◌*◌, true, false, List, ◌∷◌, length, Some}
use Rattle.tsp_rules.specs.Values.{Post, Acked, Message, Accept, Election, LoopKind, PeerId, Peer, Role, Loose, Candidate, Master, ELECT_MIN, HOLD, QUIET}
use Rattle.tsp_rules.specs.Values.{SLACK, WINDOW}
use Rattle.tsp_base.specs.Words.{Acts, Did, Seen, Here, plain, MessageValue, boot_tick, is_among, role, held, backers, stood, open_to, Setup, Receives, peer_of}
use Rattle.tsp_promises.specs.StepFacts.{backed}

-- a Back comes at least QUIET ticks after the boot, and at least HOLD ticks after the last Back, unless that was of the
-- same candidate
pub record BackFits (here : Did) (before : List Seen) (p : PeerId) : Type 0 where
  pub rested : boot_tick (plain before) + QUIET ≤ here.tick
  pub holds : (x : ℕ) (q : PeerId) → (held before).back ≡ Some (x, q) → (q ≡ p) ⊎ (x + HOLD ≤ here.tick)

-- an ACCEPT answers the ELECTION that the step took from its addressee, has its number, and comes after a Back of that
-- peer in the same step
pub record AcceptFits (before : List Seen) (p : PeerId) (number : ℕ) : Type 0 where
  pub backs : backed before ≡ Some p
  pub message : MessageValue
  pub took : Receives before p (Message message)
  pub kind : message.kind ≡ Election
  pub number_is : message.number ≡ number

-- a Backer notes the vote of another peer of the port, which hasn't voted for this candidature yet. It stands right
-- after the Acked that ended an ELECTION to that peer, in a step that took its ACCEPT of the same number
pub record BackerFits (setup : Setup) (here : Did) (before : List Seen) (p : PeerId) : Type 0 where
  pub peer : is_among p setup.peers ≡ true
  pub other : p ≢ peer_of here.step.node
  pub new : is_among p (backers before) ≡ false
  pub answer : MessageValue
  pub took : Receives before p (Message answer)
  pub kind : answer.kind ≡ Accept
  pub acked : Did
  pub past : List Seen
  pub is : before ≡ Here acked ∷ past
  pub deed : acked.deed ≡ Acts (Acked p)
  pub first : Did
  pub older : List Seen
  pub ends : open_to p past ≡ Here first ∷ older
  pub message : MessageValue
  pub asks : first.deed ≡ Acts (Post (Peer p) (Message message))
  pub election : message.kind ≡ Election
  pub number : message.number ≡ answer.number

-- a port becomes master at least ELECT_MIN ticks after the boot and after the last Quit, as a candidate that has backed
-- itself, and at most WINDOW and SLACK ticks after it stood for election. A strict election is won by more than half of
-- the peers, the port itself counted
pub record LeadFits (setup : Setup) (here : Did) (before : List Seen) : Type 0 where
  pub rested : boot_tick (plain before) + ELECT_MIN ≤ here.tick
  pub quiet : (x : ℕ) → (held before).quit ≡ Some x → x + ELECT_MIN ≤ here.tick
  pub stands : role before ≡ Candidate
  pub start : Did
  pub idle : List Seen
  pub start_is : stood before ≡ Here start ∷ idle
  pub soon : here.tick ≤ start.tick + (WINDOW + SLACK)
  pub backs : (held before).back ≡ Some (start.tick, peer_of here.step.node)
  pub wins : setup.strict ≡ true → length setup.peers < 2 * length (backers before) + 2

-- a master becomes Loose only for a LOOP that came to this port with the node's own name, and whose number, that of the
-- port from which it set out, is below this port's
pub record YieldFits (setup : Setup) (before : List Seen) : Type 0 where
  pub from : PeerId
  pub message : MessageValue
  pub took : Receives before from (Message message)
  pub kind : message.kind ≡ LoopKind
  pub name : message.name ≡ setup.name
  pub number : message.number < setup.port.0

-- what a change of the role owes: one to Master, and a master's to Loose; all others owe nothing
abbrev pub BecomeFits : Setup → Role → Did → List Seen → Type 0
BecomeFits setup Master here before = LeadFits setup here before
BecomeFits setup Loose here before = role before ≡ Master → YieldFits setup before
BecomeFits setup _ here before = Unit {0}
