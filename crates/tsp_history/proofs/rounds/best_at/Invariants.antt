-- The best of all samples is the better of that in the lines that are left and that of the others.
use Rattle.std.proofs.Common.{◌≤◌, length, take, Option}
use Rattle.tsp_base.specs.Words.{of, view, best}
use Rattle.tsp_history.specs.{Histories.history_of, Rounds.Bests, Rounds.TripsTell, declared.rounds.Best.Best}
use Rattle.tsp_history.proofs.RoundLemmas.{merged}
use Rattle.tsp_history.proofs.rounds.best_at.Given as goal

abbrev pub invariant-loop-left : goal.invariant-loop-left
invariant-loop-left l = (l.left ≤ length l.lines) × (TripsTell (history_of l.lines) l.trips → (was : Option Best) →
    Bests l.lines l.node l.port (best l.p (view l.port (of l.node (history_of (take l.left l.lines))))) was →
    Bests l.lines l.node l.port (best l.p (view l.port (of l.node (history_of l.lines)))) (merged was l.best))

abbrev pub decreases-loop-left : goal.decreases-loop-left
decreases-loop-left l = l.left
