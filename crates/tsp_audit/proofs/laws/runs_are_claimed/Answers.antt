use Rattle.tsp_audit.proofs.laws.runs_are_claimed.Goals as goal
use Rattle.tsp_audit.proofs.RunClaims.{told_are}

pub returns : goal.returns
returns c = λ header events a. (told_are header events a).history_is
