use Rattle.tsp_progress.proofs.members.runs_report.Goals as goal
use Rattle.tsp_progress.proofs.ReportsProof.{runs_report}

pub returns : goal.returns
returns c = runs_report
