-- The promise that each correction acts at most once.
use Rattle.std.specs.Prelude.{◌≡◌, ◌≤◌, ℕ, ◌+◌, ℤ, Bool, true, List, ◌∷◌, is_some}
use Rattle.tsp_rules.specs.Values.{Post, Correct, Acked, Message, Kind, PeerId, Peer, Follow, GAP}
use Rattle.tsp_base.specs.Words.{Came, Acts, Did, Seen, Here, Line, of, dids, view, MessageValue, lives, Within, role, begun_to, is_correction, is_numbered}
use Rattle.tsp_base.specs.Words.{open_to, heard, peer_of, posted, time_in}
use Rattle.tsp_promises.specs.{ClockAt.clock_at, CorrectFits.amount_of, Everywhere.Everywhere, Fits.node_of, Setting.Setting}

-- the step of this line is the coming of the message that is posted at that place, to the line's node
pub record Brings (l : Line) (world : List Line) (post : Line) (older : List Line) : Type 0 where
  pub place : Within (post ∷ older) world
  pub cause : l.did.step.cause ≡ Came (posted (dids older))
  pub message : MessageValue
  pub deed : post.did.deed ≡ Acts (Post (Peer (peer_of (node_of l))) (Message message))

-- the line is a Correct that takes this message: it stands after the Took of its step, on whatever port that is
pub record ActsOn (l : Line) (world : List Line) (post : Line) (older : List Line) : Type 0 where
  pub amount : ℤ
  pub stepped : Bool
  pub shown : ℤ
  pub correct : l.did.deed ≡ Acts (Correct amount stepped shown)
  pub brings : Brings l world post older
  pub took : is_some (heard (dids (of (node_of l) world))) ≡ true

-- the message posted here to node k is numbered, and belongs to the send whose first post is at this place: the last
-- send to k that began on the poster's port since its boot
pub record OfSend (k : ℕ) (post : Line) (older : List Line) (first : Did) (begun : List Seen) : Type 0 where
  pub message : MessageValue
  pub deed : post.did.deed ≡ Acts (Post (Peer (peer_of k)) (Message message))
  pub numbered : is_numbered message.kind ≡ true
  pub is : begun_to (peer_of k) (Here post.did ∷ view post.port (of (node_of post) older)) ≡ Here first ∷ begun

-- a node's Correct comes at least GAP ticks (1 s) after each earlier one of that node in this life
abbrev pub SpacedAt : Line → List Line → Type 0
SpacedAt l world = (other : Line) (older : List Line) (a b : ℤ) (s t : Bool) (x y : ℤ) → l.did.deed ≡ Acts (Correct a s x) → Within (other ∷ older) world →
    node_of other ≡ node_of l →
    other.did.deed ≡ Acts (Correct b t y) → lives (dids (of (node_of l) older)) ≡ lives (dids (of (node_of l) world)) → other.did.tick + GAP ≤ l.did.tick

-- and at least GAP ticks after each one in an earlier life
abbrev pub SpacedOverLivesAt : Line → List Line → Type 0
SpacedOverLivesAt l world = (other : Line) (older : List Line) (a b : ℤ) (s t : Bool) (x y : ℤ) → l.did.deed ≡ Acts (Correct a s x) →
    Within (other ∷ older) world → node_of other ≡ node_of l →
    other.did.deed ≡ Acts (Correct b t y) → other.did.tick + GAP ≤ l.did.tick

-- the step of the Correct brings a correction that q posted to its node, and the clock is moved as that says
pub record Obeys (setting : Setting) (l : Line) (world : List Line) (amount : ℤ) (q : PeerId) : Type 0 where
  pub post : Line
  pub older : List Line
  pub brings : Brings l world post older
  pub from : peer_of (node_of post) ≡ q
  pub kind : is_correction brings.message.kind ≡ true
  pub amount_is : amount ≡ amount_of brings.message.kind (time_in brings.message.body) (clock_at setting (node_of l) world l.did.step.at)

-- a follower's clock is moved only as its master says
abbrev pub ObeysAt : Setting → Line → List Line → Type 0
ObeysAt setting l world = (q : PeerId) (amount : ℤ) (stepped : Bool) (shown : ℤ) → l.did.deed ≡ Acts (Correct amount stepped shown) →
    role (view l.port (of (node_of l) world)) ≡ Follow q → Obeys setting l world amount q

-- if this Correct takes a post of a send of these kinds, no Correct before it has taken a post of the same send
abbrev pub OnceAt : (Kind → Bool) → Line → List Line → Type 0
OnceAt sends l world = (post c other : Line) (older past rest : List Line) (first : Did) (begun : List Seen) → (acts : ActsOn l world post older) →
    sends acts.brings.message.kind ≡ true →
    Within (c ∷ past) world → ActsOn c past other rest → OfSend (node_of l) post older first begun → OfSend (node_of c) other rest first begun → ⊥

-- a Correct of k takes a post of m's send that begins at this place
pub record Acted (m k : ℕ) (world : List Line) (first : Did) (begun : List Seen) : Type 0 where
  pub correct : Line
  pub past : List Line
  pub place : Within (correct ∷ past) world
  pub node : node_of correct ≡ k
  pub post : Line
  pub older : List Line
  pub acts : ActsOn correct past post older
  pub from : node_of post ≡ m
  pub of_send : OfSend k post older first begun

-- an Acked that ends a correction's send comes after a Correct that takes a post of that send
abbrev pub ConfirmedAt : Line → List Line → Type 0
ConfirmedAt l world = (p : PeerId) (first : Did) (older : List Seen) (m : MessageValue) → l.did.deed ≡ Acts (Acked p) →
    open_to p (view l.port (of (node_of l) world)) ≡ Here first ∷ older →
    first.deed ≡ Acts (Post (Peer p) (Message m)) → is_correction m.kind ≡ true → Acted (node_of l) p.0 world first older

-- corrections of a clock are apart in one life, from a boot to the next
abbrev pub OnceSpaced : List Line → Type 0
OnceSpaced = Everywhere SpacedAt

-- and over all lives
abbrev pub OnceSpacedOverLives : List Line → Type 0
OnceSpacedOverLives = Everywhere SpacedOverLivesAt

-- a follower obeys its master
abbrev pub OnceObeyed : Setting → List Line → Type 0
OnceObeyed setting = Everywhere (ObeysAt setting)

-- no send is taken twice, whatever it is
abbrev pub OnceTaken : List Line → Type 0
OnceTaken = Everywhere (OnceAt is_numbered)

-- no correction is taken twice
abbrev pub OnceCorrected : List Line → Type 0
OnceCorrected = Everywhere (OnceAt is_correction)

-- what is acknowledged was taken
abbrev pub OnceConfirmed : List Line → Type 0
OnceConfirmed = Everywhere ConfirmedAt
