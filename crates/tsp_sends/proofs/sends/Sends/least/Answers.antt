use Rattle.tsp_sends.proofs.SendsLemmas.{IsEarliest_least}
use Rattle.tsp_sends.proofs.sends.Sends.least.Goals as goal

pub returns : goal.returns
returns c = rw (← c.self.view_is) (IsEarliest_least c.self.inside.slots c.self.inside.tree.deadlines c.least.result c.self.invariant c.least.ensures)
