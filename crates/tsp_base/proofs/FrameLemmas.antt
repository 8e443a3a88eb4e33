-- The room that calls take of a desk.
use Rattle.std.proofs.Common.{sym, ◌∙◌, ap, arith, length-append, add-zero, ◌≡◌, ℕ, ◌+◌, ◌≤◌, List, [], ◌∷◌, ◌++◌, length}
use Rattle.tsp_base.specs.{Words.PutsAtMost, Words.PutsExactly, declared.act.Placed.Placed}

-- nothing is put
pub PutsExactly_none : {room : ℕ} {old : List Placed} → PutsExactly 0 room room old old
PutsExactly_none {room = room} {old = old} = record { spare = add-zero room; count = sym (add-zero (length old)) }

-- one act is put
pub PutsExactly_put : {room left : ℕ} {old new : List Placed} (p : Placed) → left + 1 ≡ room → new ≡ old ++ p ∷ [] → PutsExactly 1 room left old new
PutsExactly_put {old = old} p spare put = record { spare = spare; count = ap length put ∙ length-append old (p ∷ []) }

-- what puts at most n puts at most more than n
pub PutsAtMost_up : (n k : ℕ) {room left : ℕ} {old new : List Placed} → n ≤ k → PutsAtMost n room left old new → PutsAtMost k room left old new
PutsAtMost_up n k most r = record { spare = omega arith; few = omega arith }
