-- The parts so far are those of the first ports, and there is memory for four.
use Rattle.std.specs.Prelude.{◌≡◌, ℕ, length, Some, slice_get, slice_index_or, vec_capacity}
use Rattle.tsp_rules.specs.NodeRows.{no_port}
use Rattle.tsp_node.specs.declared.part.Part.{Part}
use Rattle.tsp_gateway.specs.PartsFresh.{IsFreshPort}
use Rattle.tsp_gateway.proofs.booting.parts_of.Given as goal

abbrev pub invariant-loop-q : goal.invariant-loop-q
invariant-loop-q l = record {
  many : length l.parts.items ≡ l.q;
  each : (k : ℕ) (part : Part) → slice_get l.parts.items k ≡ Some part → IsFreshPort l.config l.word l.tick (slice_index_or l.config.ports k no_port) part;
  memory : vec_capacity l.parts ≡ 4;
}
