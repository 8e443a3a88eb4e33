-- The ports so far can be had.
use Rattle.std.specs.Prelude.{ℕ, ◌<◌, slice_index_or}
use Rattle.tsp_rules.specs.NodeRows.{no_port}
use Rattle.tsp_node.specs.Configs.{IsPortSetup}
use Rattle.tsp_gateway.proofs.config.GateConfig.are_ports.Given as goal

abbrev pub invariant-loop-q : goal.invariant-loop-q
invariant-loop-q l = (k : ℕ) → k < l.q → IsPortSetup (slice_index_or l.self.ports k no_port)
