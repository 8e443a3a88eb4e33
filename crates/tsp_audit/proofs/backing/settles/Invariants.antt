-- A candidate that was unbacked so far has backed itself at the end.
use Rattle.std.proofs.Common.{◌≡◌, ℕ, true, false, take}
use Rattle.tsp_rules.specs.Values.{Port}
use Rattle.tsp_base.specs.Words.{of, view}
use Rattle.tsp_promises.specs.StepFacts.{is_unbacked}
use Rattle.tsp_audit.specs.Backing.{Settled, concerns}
use Rattle.tsp_history.specs.Histories.{history_of}
use Rattle.tsp_audit.proofs.backing.settles.Given as goal

abbrev pub invariant-loop-i : goal.invariant-loop-i
invariant-loop-i l = Settled l.node (history_of (take l.from l.lines)) →
    (n : ℕ) (q : Port) → concerns l.node n ≡ true → is_unbacked (view q (of n (history_of (take l.i l.lines)))) ≡ true →
    is_unbacked (view q (of n (history_of l.lines))) ≡ false
