use Rattle.std.proofs.Common.{ℕ, ◌^◌, ◌<◌}
use Rattle.tsp_sends.proofs.tree.levels_for.Given as goal

abbrev pub invariant-loop-levels : goal.invariant-loop-levels
invariant-loop-levels l = (j : ℕ) → j < l.levels → 2 ^ j < l.places
