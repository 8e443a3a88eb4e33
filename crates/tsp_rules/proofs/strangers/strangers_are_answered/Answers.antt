use Rattle.tsp_rules.proofs.strangers.strangers_are_answered.Goals as goal
use Rattle.tsp_rules.proofs.CalmSteps.{strangers_answered}

pub returns : goal.returns
returns c = strangers_answered
