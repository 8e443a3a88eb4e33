-- Each input has its row.
use Rattle.tsp_node.proofs.node.Node.step.Goals as goal

pub returns-in-Turn-clause-row : goal.returns-in-Turn-clause-row
returns-in-Turn-clause-row g c = rw c.in-Turn.is c.turn.ensures.row

pub returns-in-Bytes-clause-row : goal.returns-in-Bytes-clause-row
returns-in-Bytes-clause-row g c = rw (c.in-Bytes.is, ← c.read.ensures.value) c.take.ensures.row
