use Rattle.tsp_network.proofs.laws.schedules_are_kept.Goals as goal
use Rattle.tsp_network.proofs.NetworksKeep.{schedules_are_kept}

pub returns : goal.returns
returns c = schedules_are_kept
