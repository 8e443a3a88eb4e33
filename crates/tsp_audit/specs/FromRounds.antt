-- What a Correct came of, if that is a round.
use Rattle.std.specs.Prelude.{◌≡◌, ◌≤◌, ℕ, ℤ, List, ◌∷◌, length, take, Some}
use Rattle.tsp_audit.specs.declared.round_correction.RoundCorrection.{RoundCorrection}
use Rattle.tsp_rules.specs.Values.{Post, Datagram, Message, AdjTime, Place, Peer, Port}
use Rattle.tsp_base.specs.Words.{Acts, Came, Deed, Here, Line, Seen, dids, of, view, MessageValue, all_corrects, lives, Within, Sampled, best, peer_of, posted}
use Rattle.tsp_promises.specs.{Agreed.ReadingOf, Fits.node_of, Once.ActsOn, Once.OfSend, StepFacts.closed}
use Rattle.tsp_history.specs.{Histories.history_of, Histories.line_of, Rounds.LineAt, declared.line.HistoryLine.HistoryLine}

-- a deed posts an ADJTIME
pub record IsAdjusting (deed : Deed) : Type 0 where
  pub to : Place
  pub message : MessageValue
  pub is : deed ≡ Acts (Post to (Message message))
  pub kind : message.kind ≡ AdjTime

-- the send of which the line's Correct takes a post begins at this index, with an ADJTIME to its node
pub record BegunAt (ns : List HistoryLine) (l : Line) (i : ℕ) : Type 0 where
  pub noted : HistoryLine
  pub at : LineAt ns i noted
  pub post : Line
  pub before : List Line
  pub acts : ActsOn l (history_of ns) post before
  pub node : node_of post ≡ noted.node
  pub port : post.port ≡ noted.port
  pub of_send : OfSend (node_of l) post before (line_of noted).did (view noted.port (of noted.node (history_of (take i ns))))
  pub message : MessageValue
  pub begins : (line_of noted).did.deed ≡ Acts (Post (Peer (peer_of (node_of l))) (Message message))
  pub kind : message.kind ≡ AdjTime

-- this Close of m is the last one of the step that port q sees here; r is the reading of the best sample that it had of node k, and err that sample's error
pub record Rounds (m : ℕ) (q : Port) (k : ℕ) (seen : List Seen) (world : List Line) (close : Line) (cpast : List Line) (r : Line) (older : List Line) (err : ℤ)
    : Type 0 where
  pub closes : Within (close ∷ cpast) world
  pub close_node : node_of close ≡ m
  pub close_port : close.port ≡ q
  pub close_is : closed seen ≡ Here close.did ∷ view q (of m cpast)
  pub sample : Sampled
  pub best_is : best (peer_of k) (view q (of m cpast)) ≡ Some sample
  pub err_is : sample.err ≡ err
  pub reading : ReadingOf m q sample.place world r older

-- the same, as it is remembered
pub record RoundAs (m : ℕ) (q : Port) (k : ℕ) (h : List Line) (c : RoundCorrection) : Type 0 where
  pub close : Line
  pub cpast : List Line
  pub reading : Line
  pub older : List Line
  pub rounds : Rounds m q k (view q (of m h)) h close cpast reading older c.err
  pub master_is : c.master ≡ m
  pub at_is : c.at ≡ reading.did.step.at
  pub close_is : c.close ≡ length cpast
  pub lives_is : c.lives ≡ lives (dids (of m (close ∷ cpast)))
  pub corrects_is : c.corrects ≡ all_corrects (dids (of m (close ∷ cpast)))

-- no Close stands in the step that port q sees here, or it had no sample with a reading
abbrev pub HasNoRound : ℕ → Port → ℕ → List Line → Type 0
HasNoRound m q k h = (world : List Line) (close : Line) (cpast : List Line) (r : Line) (older : List Line) (err : ℤ) → Within h world →
    Rounds m q k (view q (of m h)) world close cpast r older err → ⊥

-- the step of the line takes what is posted at this true time
pub record TakesThen (h : List Line) (l : Line) (t : ℕ) : Type 0 where
  pub post : Line
  pub older : List Line
  pub reads : Within (post ∷ older) h
  pub takes : l.did.step.cause ≡ Came (posted (dids older))
  pub to : Place
  pub datagram : Datagram
  pub deed : post.did.deed ≡ Acts (Post to datagram)
  pub at_is : t ≡ post.did.step.at

-- the step of the line takes nothing that was posted
abbrev pub TakesNone : List Line → Line → Type 0
TakesNone h l = (k : ℕ) → l.did.step.cause ≡ Came k → posted (dids h) ≤ k
