-- The promise that no error of a clock is corrected twice.
use Rattle.std.specs.Prelude.{◌≡◌, ◌⊎◌, ℕ, true, List, ◌∷◌, None, Some}
use Rattle.tsp_rules.specs.Values.{Post, Datagram, Message, Stamp, AdjTime, SlaveUp, Place, Reply}
use Rattle.tsp_base.specs.Words.{Came, Acts, Did, Line, Seen, Here, of, dids, view, MessageValue, Within, taken, Sampled, best, is_correction, ReplyValue}
use Rattle.tsp_base.specs.Words.{Receives, Undisturbed, peer_of, posted}
use Rattle.tsp_promises.specs.{Agreed.ReadingOf, Everywhere.Everywhere, Fits.node_of, Once.ActsOn, Once.OfSend, StepFacts.closed}

-- the Correct c takes a post of a correction of m, an ADJTIME or a SETTIME, whose send begins at this place
pub record Taking (m : ℕ) (c : Line) (past : List Line) : Type 0 where
  pub post : Line
  pub before : List Line
  pub acts : ActsOn c past post before
  pub kind : is_correction acts.brings.message.kind ≡ true
  pub node : node_of post ≡ m
  pub first : Did
  pub begun : List Seen
  pub of_send : OfSend (node_of c) post before first begun

-- the send begins at a Close of m: it is an ADJTIME, or its step has taken nothing before it. The source of its number
-- is r, the reading of the best sample that the Close had of c's node
pub record FromReading (m : ℕ) (c : Line) (past : List Line) (t : Taking m c past) (close : Line) (cpast : List Line) (r : Line) (older : List Line) : Type 0
  where
    pub none : (t.acts.brings.message.kind ≡ AdjTime) ⊎ (taken t.begun ≡ None)
    pub closes : Within (close ∷ cpast) past
    pub close_node : node_of close ≡ m
    pub close_port : close.port ≡ t.post.port
    pub close_is : closed t.begun ≡ Here close.did ∷ view t.post.port (of m cpast)
    pub sample : Sampled
    pub best_is : best (peer_of (node_of c)) (view t.post.port (of m cpast)) ≡ Some sample
    pub reading : ReadingOf m t.post.port sample.place past r older

-- the send begins in a step that took a SLAVEUP of c's node, and has its number. The source of its number is r, the
-- post of that SLAVEUP
pub record FromSlaveUp (m : ℕ) (c : Line) (past : List Line) (t : Taking m c past) (r : Line) (older : List Line) : Type 0 where
  pub message : MessageValue
  pub kind : message.kind ≡ SlaveUp
  pub took : Receives t.begun (peer_of (node_of c)) (Message message)
  pub number : message.number ≡ t.acts.brings.message.number
  pub place : Within (r ∷ older) past
  pub takes : t.first.step.cause ≡ Came (posted (dids older))
  pub to : Place
  pub datagram : Datagram
  pub deed : r.did.deed ≡ Acts (Post to datagram)

-- the source of the number that a Correct takes is a reading: the number is the sample's ticket, which a reply of the
-- Correct's node carried
pub record SourceReading (m : ℕ) (c : Line) (past : List Line) (t : Taking m c past) : Type 0 where
  pub close : Line
  pub cpast : List Line
  pub r : Line
  pub older : List Line
  pub is : FromReading m c past t close cpast r older
  pub number : t.acts.brings.message.number ≡ is.sample.ticket
  pub node : node_of r ≡ node_of c
  pub reply : ReplyValue
  pub replied : r.did.deed ≡ Acts (Post is.reading.to (Stamp (Reply reply)))
  pub ticket : is.sample.ticket ≡ reply.ticket

-- or a SLAVEUP of the Correct's node
pub record SourceSlaveUp (m : ℕ) (c : Line) (past : List Line) (t : Taking m c past) : Type 0 where
  pub r : Line
  pub older : List Line
  pub is : FromSlaveUp m c past t r older
  pub node : node_of r ≡ node_of c
  pub posted : r.did.deed ≡ Acts (Post is.to (Message is.message))

-- the number that a Correct takes has a source, and between that and the Correct its node neither boots nor corrects
-- its clock
pub record OneErrorAt (l : Line) (world : List Line) : Type 0 where
  pub source : (m : ℕ) (t : Taking m l world) → SourceReading m l world t ⊎ SourceSlaveUp m l world t
  pub by_reading : (m : ℕ) (t : Taking m l world) (close : Line) (cpast : List Line) (r : Line) (older : List Line) →
      FromReading m l world t close cpast r older →
      Undisturbed (dids (of (node_of l) (r ∷ older))) (dids (of (node_of l) world))
  pub by_slaveup : (m : ℕ) (t : Taking m l world) (r : Line) (older : List Line) → FromSlaveUp m l world t r older →
      Undisturbed (dids (of (node_of l) (r ∷ older))) (dids (of (node_of l) world))

-- no error is corrected twice
abbrev pub OneError : List Line → Type 0
OneError = Everywhere OneErrorAt
