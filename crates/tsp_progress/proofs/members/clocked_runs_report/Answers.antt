use Rattle.tsp_progress.proofs.members.clocked_runs_report.Goals as goal
use Rattle.tsp_progress.proofs.ReportsProof.{clocked_runs_report}

pub returns : goal.returns
returns c = clocked_runs_report
