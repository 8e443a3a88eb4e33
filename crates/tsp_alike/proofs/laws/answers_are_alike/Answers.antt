use Rattle.tsp_alike.proofs.AlikeLaws.{answers_are_alike}
use Rattle.tsp_alike.proofs.laws.answers_are_alike.Goals as goal

pub returns : goal.returns
returns c = answers_are_alike
