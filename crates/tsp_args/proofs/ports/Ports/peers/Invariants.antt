use Rattle.std.proofs.Common.{◌≡◌, take, flat_map}
use Rattle.tsp_args.proofs.ports.Ports.peers.Given as goal

abbrev pub invariant-loop-port : goal.invariant-loop-port
invariant-loop-port l = l.peers.items ≡ flat_map (λ v. v.items) (take l.port-index l.port-items)
