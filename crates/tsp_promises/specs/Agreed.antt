-- The promise that the clocks that one round corrected agree.
use Rattle.std.specs.Prelude.{◌≡◌, ◌⊎◌, ℕ, ◌+◌, ℤ, pos, ◌+ℤ◌, Bool, true, List, ◌∷◌, Some, is_some}
use Rattle.tsp_rules.specs.Values.{Act, Post, Correct, Datagram, Message, AdjTime, PeerId, Place, Peer, Port}
use Rattle.tsp_base.specs.Words.{Came, Acts, Did, Seen, Here, Line, from_act, of, dids, view, MessageValue, all_corrects, lives, Within, acting, Sampled, best}
use Rattle.tsp_base.specs.Words.{Undisturbed, peer_of, posted}
use Rattle.tsp_promises.specs.{ClockAt.ClocksWithin, ClockAt.drifted, Everywhere.Everywhere, Everywhere.Lasting, Fits.node_of, Once.ActsOn, Once.OfSend}
use Rattle.tsp_promises.specs.{Setting.Setting}
use Rattle.tsp_promises.specs.StepFacts.{closed}

-- the reading of a sample that port q of m has at a place is r: the post of the reply that the Sample's step took
pub record ReadingOf (m : ℕ) (q : Port) (place : List Seen) (world : List Line) (r : Line) (older : List Line) : Type 0 where
  pub line : Line
  pub before : List Line
  pub at : Within (line ∷ before) world
  pub node : node_of line ≡ m
  pub port : line.port ≡ q
  pub is : place ≡ Here line.did ∷ view q (of m before)
  pub reads : Within (r ∷ older) before
  pub takes : line.did.step.cause ≡ Came (posted (dids older))
  pub to : Place
  pub datagram : Datagram
  pub deed : r.did.deed ≡ Acts (Post to datagram)

-- this Close of m, the last one in its step and on its port, begins an ADJTIME to the node of the Correct c, and c
-- takes a post of that send. r is the reading of the best sample that the Close had of that node, and err that sample's
-- error in microseconds
pub record FromRound (m : ℕ) (close : Line) (cpast : List Line) (c : Line) (past : List Line) (r : Line) (older : List Line) (err : ℤ) : Type 0 where
  pub post : Line
  pub before : List Line
  pub acts : ActsOn c past post before
  pub node : node_of post ≡ m
  pub first : Did
  pub begun : List Seen
  pub of_send : OfSend (node_of c) post before first begun
  pub message : MessageValue
  pub begins : first.deed ≡ Acts (Post (Peer (peer_of (node_of c))) (Message message))
  pub kind : message.kind ≡ AdjTime
  pub closes : Within (close ∷ cpast) past
  pub close_node : node_of close ≡ m
  pub close_port : close.port ≡ post.port
  pub close_is : closed begun ≡ Here close.did ∷ view post.port (of m cpast)
  pub sample : Sampled
  pub best_is : best (peer_of (node_of c)) (view post.port (of m cpast)) ≡ Some sample
  pub err_is : sample.err ≡ err
  pub reading : ReadingOf m post.port sample.place past r older

-- node n is left alone after the place s: it neither boots nor corrects its clock
pub record Unchanged (n : ℕ) (s h : List Line) : Type 0 where
  pub within : Within s h
  pub since : Undisturbed (dids (of n s)) (dids (of n h))

-- the next act after the Close, of all acts of the history, is the last Correct of m so far
pub record RightAfter (m : ℕ) (close : Line) (cpast h : List Line) : Type 0 where
  pub next : Line
  pub before : List Line
  pub is : from_act before ≡ close ∷ cpast
  pub amount : ℤ
  pub stepped : Bool
  pub shown : ℤ
  pub place : Within (next ∷ before) h
  pub node : node_of next ≡ m
  pub deed : next.did.deed ≡ Acts (Correct amount stepped shown)
  pub corrects : all_corrects (dids (of m (next ∷ before))) ≡ all_corrects (dids (of m h))

-- after its Close m neither boots nor corrects its clock, but for a Correct that is the next act after it, of all acts
-- of the history
pub record UnchangedBut (m : ℕ) (close : Line) (cpast h : List Line) : Type 0 where
  pub lives : lives (dids (of m (close ∷ cpast))) ≡ lives (dids (of m h))
  pub corrects : (all_corrects (dids (of m (close ∷ cpast))) ≡ all_corrects (dids (of m h))) ⊎ RightAfter m close cpast h

-- after the history h, at true time t: this holds of any two nodes that one Close corrected, and that neither booted nor corrected their
-- clocks since, and of their errors and drift. Drift is twice `width` of the time since each reading
abbrev pub OfPeers : (ℕ → ℕ → ℤ → Type 0) → Setting → List Line → ℕ → Type 0
OfPeers Holds setting h t = (m : ℕ) (close : Line) (cpast : List Line) (c d : Line) (past qast : List Line) (r q : Line) (rolder qolder : List Line) (e f : ℤ) →
    FromRound m close cpast c past r rolder e → FromRound m close cpast d qast q qolder f → Unchanged (node_of c) (c ∷ past) h →
    Unchanged (node_of d) (d ∷ qast) h →
    Holds (node_of c) (node_of d) ((e +ℤ f) +ℤ pos (drifted setting t r + drifted setting t q))

-- the same of a node that a Close corrected and the master that closed, and of the error and drift
abbrev pub OfMaster : (ℕ → ℕ → ℤ → Type 0) → Setting → List Line → ℕ → Type 0
OfMaster Holds setting h t = (m : ℕ) (close : Line) (cpast : List Line) (c : Line) (past : List Line) (r : Line) (rolder : List Line) (e : ℤ) →
    FromRound m close cpast c past r rolder e → Unchanged (node_of c) (c ∷ past) h → UnchangedBut m close cpast h →
    Holds (node_of c) m (e +ℤ pos (drifted setting t r))

-- the clocks of such nodes differ by at most that
abbrev pub PeersAgree : Setting → List Line → ℕ → Type 0
PeersAgree setting h t = OfPeers (ClocksWithin setting h t) setting h t

abbrev pub MasterAgrees : Setting → List Line → ℕ → Type 0
MasterAgrees setting h t = OfMaster (ClocksWithin setting h t) setting h t

-- both, after the history h at true time t
pub record ClocksAgree (setting : Setting) (h : List Line) (t : ℕ) : Type 0 where
  pub peers : PeersAgree setting h t
  pub master : MasterAgrees setting h t

-- an ADJTIME that a Close begins rests on a sample of its addressee's clock
abbrev pub RestsOnSample : Line → List Seen → Type 0
RestsOnSample l seen = (p : PeerId) (m : MessageValue) (close : Did) (older : List Seen) → l.did.deed ≡ Acts (Post (Peer p) (Message m)) → m.kind ≡ AdjTime →
    acting seen ≡ true →
    closed seen ≡ Here close ∷ older → is_some (best p older) ≡ true

-- at a line: what it begins rests on a sample, and where it is an act the clocks agree at its time
pub record AgreedAt (setting : Setting) (l : Line) (world : List Line) : Type 0 where
  pub rests : RestsOnSample l (view l.port (of (node_of l) world))
  pub clocks : (a : Act) → l.did.deed ≡ Acts a → ClocksAgree setting (l ∷ world) l.did.step.at

-- at each act the clocks agree
abbrev pub Agreed : Setting → List Line → Type 0
Agreed setting = Everywhere (AgreedAt setting)

-- and so they do after each line
abbrev pub StayAgreed : Setting → List Line → Type 0
StayAgreed setting = Lasting (ClocksAgree setting)
