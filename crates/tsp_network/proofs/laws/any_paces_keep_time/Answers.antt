use Rattle.tsp_network.proofs.laws.any_paces_keep_time.Goals as goal
use Rattle.tsp_network.proofs.PacedClocks.{any_paces_keep_time}

pub returns : goal.returns
returns c = any_paces_keep_time
