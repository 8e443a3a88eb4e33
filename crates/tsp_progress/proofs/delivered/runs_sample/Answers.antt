use Rattle.tsp_progress.proofs.delivered.runs_sample.Goals as goal
use Rattle.tsp_progress.proofs.SampledProof.{runs_sample}

pub returns : goal.returns
returns c = runs_sample
