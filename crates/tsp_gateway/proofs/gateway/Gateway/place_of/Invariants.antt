-- No port so far has it.
use Rattle.std.proofs.Common.{◌≡◌, drop}
use Rattle.tsp_gateway.specs.PortOf.{port_of, port_of_from, setups_in}
use Rattle.tsp_gateway.proofs.gateway.Gateway.place_of.Given as goal

abbrev pub invariant-loop-q : goal.invariant-loop-q
invariant-loop-q l = port_of l.p (setups_in l.self) ≡ port_of_from l.q l.p (drop l.q (setups_in l.self))
