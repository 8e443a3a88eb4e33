use Rattle.tsp_progress.proofs.laws.never_late.Goals as goal
use Rattle.tsp_progress.proofs.NeverLateProof.{never_late}

pub returns : goal.returns
returns c = never_late
