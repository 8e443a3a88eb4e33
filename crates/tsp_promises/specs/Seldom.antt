-- The promises that the rounds of a port close at least 239 s of its node's ticks apart, and that the error on which an
-- ADJTIME rests is at most half of the longest round, 4.5 s.
use Rattle.std.specs.Prelude.{◌≡◌, ◌≤◌, ◌≤ℤ◌, ℕ, ◌+◌, ◌-◌, ℤ, pos, List, ◌∷◌}
use Rattle.tsp_rules.specs.Values.{Close, ROUND, SLACK}
use Rattle.tsp_base.specs.Words.{Acts, Line, of, dids, lives, Within}
use Rattle.tsp_promises.specs.{Agreed.FromRound, Everywhere.Everywhere, Fits.node_of}

-- a Close comes at least ROUND less SLACK ticks (239 s) after each earlier one on its port, in one life of its node
abbrev pub SeldomAt : Line → List Line → Type 0
SeldomAt l world = (other : Line) (older : List Line) (count n : ℕ) (lo size mean low long middle : ℤ) → l.did.deed ≡ Acts (Close count lo size mean) →
    Within (other ∷ older) world → node_of other ≡ node_of l → other.port ≡ l.port →
    other.did.deed ≡ Acts (Close n low long middle) → lives (dids (of (node_of l) older)) ≡ lives (dids (of (node_of l) world)) →
    other.did.tick + (ROUND - SLACK) ≤ l.did.tick

-- it is so at each Close
abbrev pub Seldom : List Line → Type 0
Seldom = Everywhere SeldomAt

-- an exchange is within its round, which closes at most CLOSE and SLACK ticks (9 s) after it began, and the error is
-- half of the exchange
abbrev pub ErrAt : Line → List Line → Type 0
ErrAt l world =
    (m : ℕ) (close : Line) (cpast : List Line) (r : Line) (older : List Line) (err : ℤ) → FromRound m close cpast l world r older err → err ≤ℤ pos 4500000

-- so whatever the network does, the bounds of Agreed, Relayed and Chained are numbers: at most 4.5 s for each link, and
-- drift
abbrev pub ErrsBounded : List Line → Type 0
ErrsBounded = Everywhere ErrAt
