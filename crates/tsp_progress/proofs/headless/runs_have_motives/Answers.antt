use Rattle.tsp_progress.proofs.headless.runs_have_motives.Goals as goal
use Rattle.tsp_progress.proofs.MotivesProof.{runs_have_motives}

pub returns : goal.returns
returns c = runs_have_motives
