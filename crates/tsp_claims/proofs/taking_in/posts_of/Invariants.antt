-- What was noted, and what is still to be noted.
use Rattle.std.proofs.Common.{◌≡◌, ◌≤◌, ◌++◌, drop, vec_len}
use Rattle.tsp_claims.specs.{ClaimedHistory.posts_in, Fitting.acts_of, Steps.step_by}
use Rattle.tsp_claims.proofs.taking_in.posts_of.Given as goal

abbrev pub invariant-loop-line : goal.invariant-loop-line
invariant-loop-line l = record {
  posts : l.posts.items ++ posts_in l.event (step_by l.step) (acts_of (drop l.line-index l.acts)) ≡ posts_in l.event (step_by l.step) (acts_of l.acts);
  few : vec_len l.posts ≤ l.line-index;
}
