-- How far corrections of a clock lie apart.
use Rattle.std.specs.Prelude.{◌≡◌, ◌<◌, ◌≤◌, ℕ, ◌+◌, if◌then◌else◌, nat_lt, ℤ, Bool, true, List, ◌∷◌, Option, None, Some, MatchBool}
use Rattle.tsp_base.specs.declared.{act.Act.TheVariants.Correct, constants.TheConstants.GAP}
use Rattle.tsp_promises.specs.Fits.{node_of}
use Rattle.tsp_base.specs.Words.{Acts, Line, of, dids, lives, Within}

-- each Correct of node n in its present life lies GAP ticks or more before tick x
abbrev pub Spaced : ℕ → ℕ → List Line → Type 0
Spaced n x h = (other : Line) (older : List Line) (a : ℤ) (s : Bool) (y : ℤ) → Within (other ∷ older) h → node_of other ≡ n → other.did.deed ≡
    Acts (Correct a s y) →
    lives (dids (of n older)) ≡ lives (dids (of n h)) → other.did.tick + GAP ≤ x

-- the greater of two ticks; the second where there is no first
abbrev pub later_of : Option ℕ → ℕ → ℕ
later_of None t = t
later_of (Some e) t = if nat_lt t e then e else t

-- whether a tick, if there is one, lies GAP ticks or more before tick x
abbrev pub IsFarFrom : Option ℕ → ℕ → Bool → Type 0
IsFarFrom None x b = b ≡ true
IsFarFrom (Some t) x b = MatchBool b (t + GAP ≤ x) (x < t + GAP)

-- the Corrects of node n in its present life lie GAP ticks or more before a tick exactly where this one does, if
-- there is one
abbrev pub SpacedBy : ℕ → List Line → Option ℕ → Type 0
SpacedBy n h o = (x : ℕ) (b : Bool) → IsFarFrom o x b → MatchBool b (Spaced n x h) (Spaced n x h → ⊥)
