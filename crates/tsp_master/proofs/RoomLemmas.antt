-- The room of calls that put at most a number of acts, one after the other.
use Rattle.std.proofs.Common.{arith, ◌≡◌, ℕ, suc, ◌+◌, ◌*◌, Bool, true, false, if◌then◌else◌, List, [], ◌∷◌, ◌++◌}
use Rattle.tsp_rules.specs.Values.{Placed}
use Rattle.tsp_base.{proofs.FrameLemmas.PutsExactly_put, specs.Words.PutsAtMost, specs.Words.PutsExactly}

-- one act
pub once : (n k : ℕ) {room left : ℕ} {old new : List Placed} → PutsExactly 1 room left old new → PutsAtMost (n + suc k) room left old new
once n k a = record { spare = omega arith; few = omega arith }

pub put_once : (n k : ℕ) {room left : ℕ} {old new : List Placed} (p : Placed) → left + 1 ≡ room → new ≡ old ++ p ∷ [] → PutsAtMost (n + suc k) room left old new
put_once n k p spare put = once n k (PutsExactly_put p spare put)

-- one after another
pub twice : (n k : ℕ) {room between left : ℕ} {old mid new : List Placed} → PutsExactly 1 room between old mid → PutsExactly 1 between left mid new →
    PutsAtMost (n + suc (suc k)) room left old new
twice n k a b = record { spare = omega arith; few = omega arith }

-- one, and then some
pub once_then : (n k : ℕ) {room between left : ℕ} {old mid new : List Placed} → PutsExactly 1 room between old mid → PutsAtMost (n + k) between left mid new →
    PutsAtMost (n + suc k) room left old new
once_then n k a b = record { spare = omega arith; few = omega arith }

-- one at most
pub at_most_once : (b : Bool) {room left : ℕ} {old new : List Placed} → PutsExactly (if b then 1 else 0) room left old new → PutsAtMost 1 room left old new
at_most_once true a = record { spare = omega arith; few = omega arith }
at_most_once false a = record { spare = omega arith; few = omega arith }

-- an act, at most one, and then some
pub put_then : (n : ℕ) {room rest between left : ℕ} {old first mid new : List Placed} → PutsExactly 1 room rest old first →
    PutsAtMost 1 rest between first mid → PutsAtMost n between left mid new → PutsAtMost (n + 2) room left old new
put_then n a b d = record { spare = omega arith; few = omega arith }

-- an act, some, and at most one
pub then_put : (n : ℕ) {room rest between left : ℕ} {old first mid new : List Placed} → PutsExactly 1 room rest old first →
    PutsAtMost n rest between first mid → PutsAtMost 1 between left mid new → PutsAtMost (n + 2) room left old new
then_put n a b d = record { spare = omega arith; few = omega arith }

-- fewer than are allowed
pub doubled : (n j k i : ℕ) {room left : ℕ} {old new : List Placed} → j + i ≡ k → PutsAtMost (n + j) room left old new →
    PutsAtMost (2 * n + k) room left old new
doubled n j k i e a = record { spare = omega arith; few = omega arith }
