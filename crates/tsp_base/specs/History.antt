-- What the nodes did, and what one port sees of it. Each list has its newest line first.
use Rattle.std.specs.Prelude.{ℕ, ◌==◌, Bool, true, false, ◌||◌, if◌then◌else◌, ℤ, List, [], ◌∷◌}
use Rattle.tsp_base.specs.declared.{act.Act.Act, act.Act.TheVariants.Boot, place.PeerId.PeerId, place.Port.Port}

-- why a step happens
pub data Cause : Type 0 where
  -- the node boots with this word, and this is its wall clock then
  Booted : (word : ℕ) → (wall : ℤ) → Cause
  -- it looks at its timers
  Turned : Cause
  -- the datagram that was posted under this number reaches it
  Came : (datagram : ℕ) → Cause
  -- octets from outside reach it
  Handed : Cause

-- one step of one node, at this true time
pub record Step : Type 0 where
  pub at : ℕ
  pub node : ℕ
  pub cause : Cause

-- the mark where a step begins, or an act
pub data Deed : Type 0 where
  Begins : Deed
  Acts : Act → Deed

-- a deed, with the step in which it is done and the tick of the node then
pub record Did : Type 0 where
  pub step : Step
  pub tick : ℕ
  pub deed : Deed

-- a line of the history: a deed and the port on which it is done
pub record Line : Type 0 where
  pub port : Port
  pub did : Did

-- what a port sees of its node's lines: deeds on this port, and deeds on another
pub data Seen : Type 0 where
  Here : Did → Seen
  Elsewhere : Did → Seen

-- a port's past: what was set up, the step that the node is in, and what the port has seen, over all lives of the node
pub record Past : Type 0 where
  pub own : PeerId
  pub name : List ℕ
  -- whether the node may be master
  pub may : Bool
  -- whether a candidate needs a majority
  pub strict : Bool
  -- which of its node's ports it is
  pub port : Port
  pub peers : List PeerId
  pub step : Step
  pub seen : List Seen

-- the lines of one node
abbrev pub of : ℕ → List Line → List Line
of n [] = []
of n (l ∷ before) = if l.did.step.node == n then l ∷ of n before else of n before

-- whether every port of the node sees this deed as its own: a mark and a boot
abbrev pub is_shared : Deed → Bool
is_shared Begins = true
is_shared (Acts Boot) = true
is_shared _ = false

-- a deed, as a port sees it: here or elsewhere
abbrev pub seen_as : Bool → Did → Seen
seen_as true d = Here d
seen_as false d = Elsewhere d

-- what port q sees of its node's lines
abbrev pub view : Port → List Line → List Seen
view q [] = []
view q (l ∷ before) = seen_as ((l.port.0 == q.0) || is_shared l.did.deed) l.did ∷ view q before

-- the deed that was seen, on this port or on another
abbrev pub did_of : Seen → Did
did_of (Here d) = d
did_of (Elsewhere d) = d

-- what a port has seen, without ports
abbrev pub plain : List Seen → List Did
plain [] = []
plain (s ∷ before) = did_of s ∷ plain before

abbrev pub from_act_at : Deed → List Line → List Line → List Line
from_act_at Begins here was = was
from_act_at (Acts a) here was = here

-- the lines from the newest act on: newer marks are left out
abbrev pub from_act : List Line → List Line
from_act [] = []
from_act (l ∷ before) = from_act_at l.did.deed (l ∷ before) (from_act before)

-- a node's lines, without ports
abbrev pub dids : List Line → List Did
dids [] = []
dids (l ∷ before) = l.did ∷ dids before
