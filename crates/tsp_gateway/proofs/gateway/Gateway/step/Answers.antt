-- Each input has its row.
use Rattle.tsp_gateway.proofs.gateway.Gateway.step.Goals as goal

pub returns-in-Turn-clause-row : goal.returns-in-Turn-clause-row
returns-in-Turn-clause-row g c = rw c.in-Turn.is c.turn.ensures.row
