-- No line of a trace is so long.
use Rattle.tsp_audit_command.proofs.StandLemmas.{Refuses_long}
use Rattle.tsp_audit_command.proofs.check.AuditInput.refuse_long.Goals as goal

pub returns-in-Claims : goal.returns-in-Claims
returns-in-Claims c = λ r stands line long start. Refuses_long r c.args.self.now _ line _ c.in-Claims.is stands long c.of.ensures
