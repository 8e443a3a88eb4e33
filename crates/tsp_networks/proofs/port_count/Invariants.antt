-- The ports so far, and those that are left.
use Rattle.std.proofs.Common.{◌≡◌, ◌≤◌, ◌+◌, drop, length}
use Rattle.tsp_run.specs.Networks.{ports_on}
use Rattle.tsp_networks.proofs.port_count.Given as goal

abbrev pub invariant-loop-net : goal.invariant-loop-net
invariant-loop-net l = record {
  left : l.count + length (ports_on l.n (drop l.net-index l.nets)) ≡ length (ports_on l.n l.nets);
  few : l.count ≤ l.net-index;
}
