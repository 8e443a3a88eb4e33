use Rattle.std.proofs.Common.{◌≡◌, ◌+◌, ◌-◌, ◌++◌, ℕ, List, length, false}
use Rattle.tsp_io.specs.Streams.{Gives}
use Rattle.tsp_lines.proofs.reader.LineReader.next.Given as goal

abbrev pub invariant-loop-next : goal.invariant-loop-next
invariant-loop-next g l =
    ((octets : List ℕ) × Gives (g.S.Source.left l.fn.source) (g.S.Source.left l.source) octets × (l.self.got ≡ l.fn.self.got + length octets) ×
    (l.self.held ≡ l.fn.self.held ++ octets))
    × (l.self.limit ≡ l.fn.self.limit) × (g.S.Source.ended l.source ≡ false) × (g.S.Source.faults l.source ≡ g.S.Source.faults l.fn.source)

abbrev pub decreases-loop-next : goal.decreases-loop-next
decreases-loop-next g l = l.self.limit + 1 - l.self.got
