-- The others are told, and then the rounds are given up.
use Rattle.tsp_gateway.proofs.LiftLemmas.{All_from}
use Rattle.tsp_gateway.proofs.gateway.Gateway.upset.Goals as goal

pub returns-clause-row : goal.returns-clause-row
returns-clause-row g c x = All_from (λ past u. c.tell.ensures.stands past u) (c.abandon_each.ensures.row x)
