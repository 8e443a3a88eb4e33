use Rattle.tsp_progress.proofs.delivered.clocked_runs_answer.Goals as goal
use Rattle.tsp_progress.proofs.AnswersProof.{clocked_runs_answer}

pub returns : goal.returns
returns c = clocked_runs_answer
