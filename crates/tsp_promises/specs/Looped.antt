-- The promise of LOOPs: each comes along a chain of posts, and a master gives up only for its own.
use Rattle.std.specs.Prelude.{◌≡◌, ◌≢◌, ℕ, ◌+◌, ◌<◌, ◌≤◌, true, List, [], ◌∷◌, length, is_some}
use Rattle.tsp_rules.specs.Values.{Post, Become, Message, LoopKind, Hops, PeerId, Place, Peer, Port, Loose, Master, HOPS}
use Rattle.tsp_base.specs.Words.{Acts, Line, dids, of, view, MessageValue, role, heard}
use Rattle.tsp_promises.specs.{Everywhere.Everywhere, Fits.node_of, Once.Brings, Premises.Honest, Premises.NamesApart, Setting.Setting}

-- the post of a LOOP to a peer, and what stands before it
pub record LoopPost : Type 0 where
  pub post : Line
  pub older : List Line
  pub to : PeerId
  pub message : MessageValue
  pub deed : post.did.deed ≡ Acts (Post (Peer to) (Message message))
  pub kind : message.kind ≡ LoopKind
  pub hops : ℕ
  pub hops_is : message.body ≡ Hops hops

-- the line comes after the Took of its step, which took this post
pub record TakesPost (l : Line) (world : List Line) (early : LoopPost) : Type 0 where
  pub brings : Brings l world early.post early.older
  pub took : is_some (heard (dids (of (node_of l) world))) ≡ true

-- a chain of posts, the last one first: the first has HOPS hops, and each other comes in the step that has taken the
-- one before it, with one hop less
abbrev pub IsLoopChain : List LoopPost → Type 0
IsLoopChain [] = ⊥
IsLoopChain (first ∷ []) = first.hops ≡ HOPS
IsLoopChain (late ∷ early ∷ rest) = TakesPost late.post late.older early × ((early.hops ≡ late.hops + 1) × IsLoopChain (early ∷ rest))

-- the post of a LOOP here ends a chain of at most HOPS + 1 posts, eleven
pub record EndsChain (l : Line) (world : List Line) : Type 0 where
  pub last : LoopPost
  pub rest : List LoopPost
  pub post_is : last.post ≡ l
  pub older_is : last.older ≡ world
  pub chain : IsLoopChain (last ∷ rest)
  pub few : length (last ∷ rest) ≤ HOPS + 1

-- a LOOP that is posted has at most HOPS hops, ten
abbrev pub HopsAt : Line → List Line → Type 0
HopsAt l world = (to : Place) (m : MessageValue) → l.did.deed ≡ Acts (Post to (Message m)) → m.kind ≡ LoopKind → (hops : ℕ) ×
    ((m.body ≡ Hops hops) × (hops ≤ HOPS))

-- its post ends a chain
abbrev pub ChainAt : Line → List Line → Type 0
ChainAt l world = (to : Place) (m : MessageValue) → l.did.deed ≡ Acts (Post to (Message m)) → m.kind ≡ LoopKind → EndsChain l world

-- the first post of these is by node n, on a port below p, and the others are by other nodes
abbrev pub SentBy : ℕ → Port → List LoopPost → Type 0
SentBy n p [] = ⊥
SentBy n p (first ∷ []) = (node_of first.post ≡ n) × (first.post.port.0 < p.0)
SentBy n p (late ∷ early ∷ rest) = (node_of late.post ≢ n) × SentBy n p (early ∷ rest)

-- the step has taken the last post of a chain that this node began on a port with a lower number, and that only other
-- nodes passed on
pub record GivesUp (l : Line) (world : List Line) : Type 0 where
  pub last : LoopPost
  pub rest : List LoopPost
  pub takes : TakesPost l world last
  pub chain : IsLoopChain (last ∷ rest)
  pub sent : SentBy (node_of l) l.port (last ∷ rest)

-- a master becomes Loose for such a LOOP alone
abbrev pub GivesUpAt : Line → List Line → Type 0
GivesUpAt l world = l.did.deed ≡ Acts (Become Loose) → role (view l.port (of (node_of l) world)) ≡ Master → GivesUp l world

-- each LOOP has few hops in every history. It ends a chain if no peer's datagram is forged; and if the nodes' names
-- differ besides, a master becomes Loose only for a LOOP of its own
pub record Looped (setting : Setting) (world : List Line) : Type 0 where
  pub hops : Everywhere HopsAt world
  pub chains : Honest world → Everywhere ChainAt world
  pub gives_up : Honest world → NamesApart setting world → Everywhere GivesUpAt world
