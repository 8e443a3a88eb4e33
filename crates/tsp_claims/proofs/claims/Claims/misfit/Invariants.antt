-- The lines so far fit and were counted.
use Rattle.std.proofs.Common.{◌≤◌, ◌+◌}
use Rattle.tsp_claims.{proofs.FitLemmas.Left, specs.Fitting.FitsAfter, specs.Listed.up_in}
use Rattle.tsp_claims.proofs.claims.Claims.misfit.Given as goal

abbrev pub invariant-loop-i : goal.invariant-loop-i
invariant-loop-i l = record {
  posts : l.tally.posts ≤ l.i;
  left : Left (FitsAfter l.self.header l.self.posts.items (up_in l.self.up.items) (l.self.events + 1)) l.e l.tally l.i l.lines;
}
