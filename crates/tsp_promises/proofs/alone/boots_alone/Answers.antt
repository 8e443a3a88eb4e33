use Rattle.tsp_promises.proofs.shared.AloneLemmas.{same_boots}
use Rattle.tsp_promises.proofs.alone.boots_alone.Goals as goal

pub returns : goal.returns
returns c x past s one = same_boots.run x past s one tt
