use Rattle.tsp_progress.proofs.delivered.runs_answer.Goals as goal
use Rattle.tsp_progress.proofs.AnswersProof.{runs_answer}

pub returns : goal.returns
returns c = runs_answer
