-- The room of calls that put acts, one after the other.
use Rattle.std.proofs.Common.{arith, ◌≡◌, ℕ, ◌+◌, Bool, true, false, if◌then◌else◌, List}
use Rattle.tsp_rules.specs.Values.{Placed}
use Rattle.tsp_base.specs.Words.{PutsAtMost, PutsExactly}

-- fewer than are allowed
pub at_most : (n k : ℕ) {room left : ℕ} {old new : List Placed} → PutsExactly n room left old new → PutsAtMost (n + k) room left old new
at_most n k a = record { spare = omega arith; few = omega arith }

pub more_room : (n k : ℕ) {room left : ℕ} {old new : List Placed} → PutsAtMost n room left old new → PutsAtMost (n + k) room left old new
more_room n k a = record { spare = omega arith; few = omega arith }

pub beside_peers : (peers n k i : ℕ) {room left : ℕ} {old new : List Placed} → n + i ≡ k → PutsExactly n room left old new →
    PutsAtMost (peers + k) room left old new
beside_peers peers n k i e a = record { spare = omega arith; few = omega arith }

-- one after another
pub both : (n k : ℕ) {room between left : ℕ} {old mid new : List Placed} → PutsExactly n room between old mid → PutsExactly k between left mid new →
    PutsExactly (n + k) room left old new
both n k a b = record { spare = omega arith; count = omega arith }

-- an act, and then some
pub one_then : (peers n : ℕ) {room between left : ℕ} {old mid new : List Placed} → PutsExactly 1 room between old mid →
    PutsAtMost (peers + n) between left mid new → PutsAtMost (peers + (n + 1)) room left old new
one_then peers n a b = record { spare = omega arith; few = omega arith }

-- one at most
pub at_most_once : (b : Bool) (k : ℕ) {room left : ℕ} {old new : List Placed} → PutsExactly (if b then 1 else 0) room left old new →
    PutsAtMost (k + 1) room left old new
at_most_once true k a = record { spare = omega arith; few = omega arith }
at_most_once false k a = record { spare = omega arith; few = omega arith }
