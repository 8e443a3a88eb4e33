use Rattle.tsp_run.proofs.laws.each_is_set.Goals as goal
use Rattle.tsp_run.proofs.SettingLemmas.{each_is_set_holds}

pub returns : goal.returns
returns c = each_is_set_holds
