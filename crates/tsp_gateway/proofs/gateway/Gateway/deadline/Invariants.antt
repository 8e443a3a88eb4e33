-- The ports so far have these deadlines, and their earliest is at hand.
use Rattle.std.proofs.Common.{◌≡◌, ℕ, length, List, Option, Some, slice_get}
use Rattle.tsp_node.specs.{Dues.IsPartDue, declared.part.Part.Part}
use Rattle.tsp_gateway.specs.Dues.{least_of}
use Rattle.tsp_gateway.proofs.gateway.Gateway.deadline.Given as goal

abbrev pub invariant-loop-part : goal.invariant-loop-part
invariant-loop-part l =
    (dues : List (Option ℕ)) × (length dues ≡ l.part-index)
    × ((q : ℕ) (due : Option ℕ) → slice_get dues q ≡ Some due → (part : Part) × (slice_get l.self.ports.items q ≡ Some part) × IsPartDue part due)
    × (l.due ≡ least_of dues)
