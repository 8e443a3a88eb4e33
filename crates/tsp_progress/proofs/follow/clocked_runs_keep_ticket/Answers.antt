use Rattle.tsp_progress.proofs.follow.clocked_runs_keep_ticket.Goals as goal
use Rattle.tsp_progress.proofs.TicketProof.{clocked_runs_keep_ticket}

pub returns : goal.returns
returns c = clocked_runs_keep_ticket
