use Rattle.tsp_network.proofs.laws.served_is_tried.Goals as goal
use Rattle.tsp_network.proofs.EndLemmas.{served_is_tried}

pub returns : goal.returns
returns c = served_is_tried
