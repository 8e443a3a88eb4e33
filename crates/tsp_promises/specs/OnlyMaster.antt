-- The promise that only masters correct.
use Rattle.std.specs.Prelude.{◌≡◌, ℕ, ℤ, Bool, true, List, ◌∷◌}
use Rattle.tsp_rules.specs.Values.{Post, Close, Correct, Message, Place, Master}
use Rattle.tsp_base.specs.Words.{Acts, Line, from_act, of, view, MessageValue, role, is_correction}
use Rattle.tsp_promises.specs.{Everywhere.Everywhere, Fits.node_of}

-- the port's role just before the line is Master
abbrev pub Leads : Line → List Line → Type 0
Leads l world = role (view l.port (of (node_of l) world)) ≡ Master

-- the port is a master at each post of an ADJTIME or a SETTIME, at each Close, and at a Correct that is the next act
-- after a Close, of all acts of the history
pub record LeadsAt (l : Line) (world : List Line) : Type 0 where
  pub posts : (to : Place) (m : MessageValue) → l.did.deed ≡ Acts (Post to (Message m)) → is_correction m.kind ≡ true → Leads l world
  pub closes : (count : ℕ) (lo size mean : ℤ) → l.did.deed ≡ Acts (Close count lo size mean) → Leads l world
  pub corrects : (close : Line) (older : List Line) (count : ℕ) (lo size mean amount : ℤ) (stepped : Bool) (shown : ℤ) → from_act world ≡ close ∷ older →
      close.did.deed ≡ Acts (Close count lo size mean) →
      l.did.deed ≡ Acts (Correct amount stepped shown) → Leads l world

-- only masters correct
abbrev pub OnlyMaster : List Line → Type 0
OnlyMaster = Everywhere LeadsAt
