-- The promise that a Correct prints what its clock shows, and says whether it is stepped.
use Rattle.std.specs.Prelude.{◌≡◌, ◌≤◌, ◌-◌, ◌/◌, ℤ, pos, ◌-ℤ◌, nat_abs, Bool, true, false, List, ◌∷◌}
use Rattle.tsp_rules.specs.Values.{Correct}
use Rattle.tsp_base.specs.Words.{Acts, Line, dids, of, shown, target, Within, heard}
use Rattle.tsp_promises.specs.{CorrectFits.is_stepped, Everywhere.Everywhere, Fits.node_of, Steady.Unstepped}

-- what a Correct of this amount prints
pub record Prints (l : Line) (world : List Line) (amount : ℤ) (stepped : Bool) (printed : ℤ) : Type 0 where
  -- the value is what the clock shows right after it
  pub value : printed ≡ shown (dids (of (node_of l) (l ∷ world))) l.did.tick
  -- it says that it is stepped exactly where it sets the clock, by the SETTIME or the date that its step has taken, or
  -- where the amount is more than MAXADJ
  pub flag : stepped ≡ is_stepped amount (heard (dids (of (node_of l) world)))
  -- one that is slewed leaves the shown value as it was
  pub slewed : stepped ≡ false → printed ≡ shown (dids (of (node_of l) world)) l.did.tick
  -- one that is stepped makes the clock show its new target
  pub jumps : stepped ≡ true → printed ≡ target (dids (of (node_of l) (l ∷ world))) l.did.tick

-- two Corrects of a node, between which it doesn't boot, and after the first of which none is stepped: the printed
-- values differ by the ticks between, give or take one microsecond for each 200 ticks
abbrev pub PrintedApart : Line → List Line → Type 0
PrintedApart l world = (early : Line) (past : List Line) (a b : ℤ) (stepped later : Bool) (x y : ℤ) → early.did.deed ≡ Acts (Correct a stepped x) → l.did.deed ≡
    Acts (Correct b later y) →
    node_of early ≡ node_of l → Within (early ∷ past) world → Unstepped (node_of l) (early ∷ past) (l ∷ world) →
    nat_abs ((y -ℤ x) -ℤ pos (l.did.tick - early.did.tick)) ≤ (l.did.tick - early.did.tick) / 200

-- what a Correct prints, by itself and beside an earlier one
pub record ShowsAt (l : Line) (world : List Line) : Type 0 where
  pub prints : (amount : ℤ) (stepped : Bool) (printed : ℤ) → l.did.deed ≡ Acts (Correct amount stepped printed) → Prints l world amount stepped printed
  pub apart : PrintedApart l world

abbrev pub Shows : List Line → Type 0
Shows = Everywhere ShowsAt
