-- What the ports keep is what their pasts say.
use Rattle.tsp_gateway.proofs.DueLemmas.{IsNodeDue_of}
use Rattle.tsp_gateway.proofs.gateway.Gateway.due.Goals as goal

pub returns : goal.returns
returns c = record {
  past = λ past s. IsNodeDue_of past c.args.self.now c.deadline.result s c.deadline.ensures;
}
