use Rattle.tsp_progress.proofs.headless.clocked_runs_have_motives.Goals as goal
use Rattle.tsp_progress.proofs.MotivesProof.{clocked_runs_have_motives}

pub returns : goal.returns
returns c = clocked_runs_have_motives
