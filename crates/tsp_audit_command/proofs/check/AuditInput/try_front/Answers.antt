-- The schedule took the line of an event, or nothing has changed.
use Rattle.std.proofs.Common.{arith}
use Rattle.tsp_audit_command.proofs.StandLemmas.{Tries_scheduled}
use Rattle.tsp_audit_command.proofs.check.AuditInput.try_front.Goals as goal

pub returns-clause-tries : goal.returns-clause-tries
returns-clause-tries c r stands = Tries_scheduled r c.args.self.now c.in-Schedule.stage c.try_front.new.self c.args.text.now c.node_count.result
    c.try_front.result c.in-Schedule.is stands c.node_count.ensures.count (omega arith) c.try_front.ensures.tries
