-- The line was read, and nothing is handed over.
use Rattle.tsp_audit_command.proofs.StandLemmas.{Goes_advances, StopsAt_halts}
use Rattle.tsp_audit_command.proofs.check.CheckTreatment.treat.Goals as goal

pub returns-in-Ok-clause-treats : goal.returns-in-Ok-clause-treats
returns-in-Ok-clause-treats g c lines text stands accepts room =
    Goes_advances lines text c.args.line.now accepts.0 c.advance.new.self _ _ accepts.1 accepts.2 (λ q r. c.in-Ok.ensures.next q (stands q r))

pub returns-in-Err-clause-treats : goal.returns-in-Err-clause-treats
returns-in-Err-clause-treats g c lines text stands accepts room =
    StopsAt_halts lines text c.args.line.now accepts.0 _ _ c.in-Err.stop accepts.1 (c.in-Err.ensures.next accepts.0 (stands accepts.0 accepts.1))
