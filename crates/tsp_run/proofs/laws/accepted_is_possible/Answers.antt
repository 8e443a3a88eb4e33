use Rattle.tsp_run.proofs.laws.accepted_is_possible.Goals as goal
use Rattle.tsp_run.proofs.PossibleRun.{accepted_possible}

pub returns : goal.returns
returns c = accepted_possible
