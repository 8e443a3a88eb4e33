-- Which candidates have backed themselves.
use Rattle.std.specs.Prelude.{◌≡◌, ℕ, ◌==◌, Bool, true, false, not, List, Option, None, Some}
use Rattle.tsp_rules.specs.Values.{Post, Become, Message, Kind, Accept, Election, PeerId, Place, Peer, Stranger, Port, Candidate}
use Rattle.tsp_base.specs.Words.{Acts, Deed, Line, of, view}
use Rattle.tsp_promises.specs.{OneBack.BacksAt, OneBack.HoldsAt, StepFacts.is_unbacked}

abbrev pub is_standing : Deed → Bool
is_standing (Acts (Become Candidate)) = true
is_standing _ = false

-- whether the line makes a port a candidate
abbrev pub is_stand : Line → Bool
is_stand l = is_standing l.did.deed

-- whether a node is the one that is meant, which may be any
abbrev pub concerns : Option ℕ → ℕ → Bool
concerns None n = true
concerns (Some m) n = n == m

-- no port of the node that is meant is a candidate that hasn't backed itself in its step
abbrev pub Settled : Option ℕ → List Line → Type 0
Settled meant h = (n : ℕ) (q : Port) → concerns meant n ≡ true → is_unbacked (view q (of n h)) ≡ false

-- whether a message of this kind may be posted by a port, by whom its step has backed last, and by whether it is a
-- candidate that hasn't backed itself
abbrev pub post_backs : Kind → Place → Option PeerId → Bool → Bool
post_backs Accept (Peer p) None unbacked = false
post_backs Accept (Peer p) (Some q) unbacked = q.0 == p.0
post_backs Accept Stranger backed unbacked = false
post_backs Election to backed unbacked = not unbacked
post_backs _ to backed unbacked = true

-- whether an act keeps to whom its step has backed
abbrev pub deed_backs : Deed → Option PeerId → Bool → Bool
deed_backs (Acts (Post to (Message m))) backed unbacked = post_backs m.kind to backed unbacked
deed_backs _ backed unbacked = true

-- what the promise about backing asks of a line
pub record Backs (l : Line) (world : List Line) : Type 0 where
  pub holds : HoldsAt l world
  pub backs : BacksAt l world
