use Rattle.tsp_lines.proofs.OneAnswer.{IsAnswer_one}
use Rattle.tsp_lines.proofs.laws.one_answer.Goals as goal

pub returns : goal.returns
returns g c = λ definite. IsAnswer_one g.T.Treatment.meaning definite
