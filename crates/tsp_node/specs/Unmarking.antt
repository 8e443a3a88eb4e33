-- How a master forgets its rivals.
use Rattle.std.specs.Prelude.{◌≡◌, Bool, true, false, List, [], length}
use Rattle.tsp_rules.specs.Values.{PeerId}
use Rattle.tsp_resolve.specs.{Marked.marked, declared.resolve.Resolve.Resolve}

-- no peer is marked any more
pub record Unmarked (old new : Resolve) : Type 0 where
  pub none : (peers : List PeerId) → marked peers new.marks ≡ []
  pub many : length new.marks ≡ length old.marks

-- the same where the flag is true; where it is false, nothing changed
abbrev pub Unmarks : Bool → Resolve → Resolve → Type 0
Unmarks true old new = Unmarked old new
Unmarks false old new = new ≡ old
