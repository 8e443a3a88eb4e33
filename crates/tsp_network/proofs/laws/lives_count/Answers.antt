use Rattle.tsp_network.proofs.laws.lives_count.Goals as goal
use Rattle.tsp_network.proofs.LivesCount.{lives_count}

pub returns : goal.returns
returns c = lives_count
