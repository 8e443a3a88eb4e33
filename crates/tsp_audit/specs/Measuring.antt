-- What a Sample is measured by.
use Rattle.std.specs.Prelude.{◌≡◌, ◌<◌, ℕ, ℤ, pos, ◌-ℤ◌, ◌≤ℤ◌, nat_abs, List, ◌∷◌, length, get_or, take}
use Rattle.tsp_rules.specs.Values.{Post, Stamp, PeerId, Peer, Reply}
use Rattle.tsp_base.specs.Words.{Acts, Came, Line, dids, Within, ReplyValue, peer_of, posted}
use Rattle.tsp_promises.specs.{Fits.node_of, Measured.MeasuredAt, Measured.TripAt, Setting.Setting}
use Rattle.tsp_history.specs.{Histories.history_of, Histories.line_of, declared.line.HistoryLine.HistoryLine}

-- a line is that of peer p, and posts a reply to this node
pub record RepliesTo (post : Line) (p : PeerId) (node : ℕ) : Type 0 where
  pub from : peer_of (node_of post) ≡ p
  pub reply : ReplyValue
  pub deed : post.did.deed ≡ Acts (Post (Peer (peer_of node)) (Stamp (Reply reply)))

-- the line's step takes a reply that p posted to its node
pub record Replies (l : Line) (h : List Line) (p : PeerId) (post : Line) (older : List Line) : Type 0 where
  pub place : Within (post ∷ older) h
  pub takes : l.did.step.cause ≡ Came (posted (dids older))
  pub posts : RepliesTo post p (node_of l)

-- p posts the reply that the line's step takes at the line with this index, of those before it
pub record RepliesAt (ns : List HistoryLine) (l : Line) (p : PeerId) (i : ℕ) : Type 0 where
  pub below : i < length ns
  pub replies : (noted : HistoryLine) → get_or ns i noted ≡ noted → Replies l (history_of ns) p (line_of noted) (history_of (take i ns))

-- one clock is ahead of another by diff, give or take err
abbrev pub IsWithinError : ℤ → ℤ → ℤ → ℤ → Type 0
IsWithinError diff err ahead own = pos (nat_abs (diff -ℤ (ahead -ℤ own))) ≤ℤ err

-- what the promise about measurements asks of a line
pub record MeasuresAt (setting : Setting) (l : Line) (h : List Line) : Type 0 where
  pub measured : MeasuredAt setting l h
  pub trip : TripAt l h
