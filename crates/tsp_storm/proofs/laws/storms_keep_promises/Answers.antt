use Rattle.tsp_storm.proofs.StormKeeps.{storm_kept}
use Rattle.tsp_storm.proofs.laws.storms_keep_promises.Goals as goal

pub returns : goal.returns
returns c = λ s is. storm_kept s is
