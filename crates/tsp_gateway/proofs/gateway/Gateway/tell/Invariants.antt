-- The ports so far are told, but q.
use Rattle.tsp_gateway.proofs.TellLemmas.{IsTelling}
use Rattle.tsp_gateway.proofs.gateway.Gateway.tell.Given as goal

abbrev pub invariant-loop-r : goal.invariant-loop-r
invariant-loop-r l = IsTelling l.q l.tick l.r l.initial.self l.self
