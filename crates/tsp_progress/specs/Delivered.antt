-- What progress asks of the network: datagrams arrive in time.
use Rattle.std.specs.Prelude.{◌≡◌, ◌≤◌, ◌<◌, ℕ, ◌+◌, ◌==◌, Bool, true, false, List, ◌∷◌}
use Rattle.tsp_rules.specs.Values.{Took, Post, Good, Datagram, PeerId, Peer}
use Rattle.tsp_base.specs.Words.{Acts, Came, Line, Within, dids, is_among, peer_of, posted}
use Rattle.tsp_promises.specs.{Fits.node_of, Setting.Setting}

-- at the line l, after these lines, its node posts datagram d to p, another member of the network of the line's port
pub record PostsTo (setting : Setting) (l : Line) (older world : List Line) (p : PeerId) (d : Datagram) : Type 0 where
  pub place : Within (l ∷ older) world
  pub deed : l.did.deed ≡ Acts (Post (Peer p) d)
  pub member : is_among p (setting.members (setting.net (node_of l) l.port)) ≡ true
  pub other : (p.0 == node_of l) ≡ false

-- what was posted there is taken later by p, on the same network, at most `long` microseconds of true time after
pub record Arrives (setting : Setting) (long : ℕ) (l : Line) (older world : List Line) (p : PeerId) (d : Datagram) : Type 0 where
  pub line : Line
  pub before : List Line
  pub place : Within (line ∷ before) world
  pub later : Within (l ∷ older) before
  pub node : node_of line ≡ p.0
  pub net : setting.net (node_of line) line.port ≡ setting.net (node_of l) l.port
  pub came : line.did.step.cause ≡ Came (posted (dids older))
  pub took : line.did.deed ≡ Acts (Took (Peer (peer_of (node_of l))) (Good d))
  pub soon : line.did.step.at ≤ l.did.step.at + long

-- what is posted after the place s of the history, to a member that stays, more than `long` before the true time t, is taken in time
abbrev pub Delivered : Setting → ℕ → ℕ → (ℕ → Bool) → List Line → List Line → Type 0
Delivered setting long t stays s world = (l : Line) (older : List Line) (p : PeerId) (d : Datagram) → PostsTo setting l older world p d →
    Within s older → stays p.0 ≡ true → l.did.step.at + long < t → Arrives setting long l older world p d
