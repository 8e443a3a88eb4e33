use Rattle.tsp_network.proofs.laws.networks_keep_promises.Goals as goal
use Rattle.tsp_network.proofs.NetworksKeep.{networks_keep_promises}

pub returns : goal.returns
returns c = networks_keep_promises
