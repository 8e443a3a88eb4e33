use Rattle.std.proofs.Common.{◌≡◌, ◌≤◌, ◌+◌, ◌-◌, length, false}
use Rattle.tsp_io.specs.Streams.{Gives}
use Rattle.tsp_lines.proofs.gather.gather_by.Given as goal

abbrev pub invariant-loop-octets : goal.invariant-loop-octets
invariant-loop-octets g l =
    Gives (g.S.Source.left l.fn.source) (g.S.Source.left l.source) l.octets.items × (length l.octets.items ≤ l.limit + 1) ×
    (g.S.Source.ended l.source ≡ false) × (g.S.Source.faults l.source ≡ g.S.Source.faults l.fn.source)

abbrev pub decreases-loop-octets : goal.decreases-loop-octets
decreases-loop-octets g l = l.limit + 1 - length l.octets.items
