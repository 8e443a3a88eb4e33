-- Laws of what calls do to counts of faults.
use Rattle.std.proofs.Common.{◌∙◌, arith, ◌≡◌}
use Rattle.tsp_io.specs.declared.link.Link.{Ghosts as LinkOf}
pub use Rattle.tsp_lines.proofs.Leaving.{Counts_from, Counts_same}
use Rattle.tsp_query.specs.Faults.{LinkCounts}

-- a link's counts from an earlier moment, at which they were the same, and by another word for the fault
pub LinkCounts_from : {L : Type 0} (links : LinkOf L) (old before now : L) (fault failed : Type 0) → links.faults before ≡ links.faults old →
    links.send_faults before ≡ links.send_faults old → (fault → failed) → (failed → fault)
    → LinkCounts links before now failed → LinkCounts links old now fault
LinkCounts_from links old before now fault failed same sends to from c = record {
  later = (omega (arith, same, c.later.0), omega (arith, sends, c.later.1));
  cause = λ e. rw (← same, ← sends) (c.cause (to e));
  still = λ h. (let kept = c.still (λ e. h (from e)) in (kept.0 ∙ same, kept.1 ∙ sends));
}
