-- The networks that are left decide, with the ports passed so far.
use Rattle.std.proofs.Common.{◌≡◌, ◌≤◌, drop}
use Rattle.tsp_run.specs.Networks.{network_at, port_at}
use Rattle.tsp_networks.proofs.BesideLemmas.{beside}
use Rattle.tsp_networks.proofs.port_beside.Given as goal

abbrev pub invariant-loop-net : goal.invariant-loop-net
invariant-loop-net l = record {
  left : beside l.n l.from l.port.0 l.beside l.passed l.net-index (drop l.net-index l.nets) ≡ port_at l.n (network_at l.from l.port l.nets) l.nets;
  passed : l.passed ≤ l.net-index;
  ports : l.beside ≤ l.net-index;
}
