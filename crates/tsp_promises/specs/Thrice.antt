-- The promise that a numbered send has few posts, all of them soon after its beginning.
use Rattle.std.specs.Prelude.{◌≡◌, ◌≤◌, ℕ, ◌+◌, ◌==◌, Bool, true, ◌&&◌, if◌then◌else◌, List, [], ◌∷◌}
use Rattle.tsp_rules.specs.Values.{Post, Message, PeerId, Peer, LAST, TRIES}
use Rattle.tsp_base.specs.Words.{Deed, Acts, Line, Seen, Here, Elsewhere, of, view, MessageValue, Within, acting, begun_to, is_numbered}
use Rattle.tsp_promises.specs.{Everywhere.Everywhere, Fits.node_of}

abbrev pub sent_after : PeerId → Deed → Bool → ℕ → ℕ
sent_after p (Acts (Post (Peer q) (Message m))) begins n = if (q.0 == p.0) && is_numbered m.kind then (if begins then 1 else n + 1) else n
sent_after p _ begins n = n

-- how many posts the last send that began to p has had so far, its first one counted, whether it is open or has ended
abbrev pub sent : PeerId → List Seen → ℕ
sent p [] = 0
sent p (Here d ∷ before) = sent_after p d.deed (acting before) (sent p before)
sent p (Elsewhere d ∷ before) = sent p before

-- this numbered post to p is one of at most TRIES (3) of a send that its port began, at most LAST ticks (4 s) before,
-- with the same message
pub record OneOfFew (l : Line) (world : List Line) (p : PeerId) : Type 0 where
  pub first : Line
  pub older : List Line
  pub place : Within (first ∷ older) (l ∷ world)
  pub node : node_of first ≡ node_of l
  pub port : first.port ≡ l.port
  pub begins : acting (view l.port (of (node_of l) older)) ≡ true
  pub is : begun_to p (view l.port (of (node_of l) (l ∷ world))) ≡ Here first.did ∷ view l.port (of (node_of l) older)
  pub same : first.did.deed ≡ l.did.deed
  pub soon : l.did.tick ≤ first.did.tick + LAST
  pub few : sent p (view l.port (of (node_of l) (l ∷ world))) ≤ TRIES

-- each post of a numbered message to a peer is one of few
abbrev pub ThriceAt : Line → List Line → Type 0
ThriceAt l world = (p : PeerId) (m : MessageValue) → l.did.deed ≡ Acts (Post (Peer p) (Message m)) → is_numbered m.kind ≡ true → OneOfFew l world p

abbrev pub Thrice : List Line → Type 0
Thrice = Everywhere ThriceAt
