use Rattle.tsp_progress.proofs.delivered.clocked_runs_sample.Goals as goal
use Rattle.tsp_progress.proofs.SampledProof.{clocked_runs_sample}

pub returns : goal.returns
returns c = clocked_runs_sample
