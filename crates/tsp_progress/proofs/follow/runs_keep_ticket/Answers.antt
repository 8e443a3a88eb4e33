use Rattle.tsp_progress.proofs.follow.runs_keep_ticket.Goals as goal
use Rattle.tsp_progress.proofs.TicketProof.{runs_keep_ticket}

pub returns : goal.returns
returns c = runs_keep_ticket
