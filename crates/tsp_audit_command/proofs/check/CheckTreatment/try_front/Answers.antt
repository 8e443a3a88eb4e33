-- The line was read, or nothing has changed, and nothing is handed over.
use Rattle.std.proofs.lemmas.Option.{IfSome_then}
use Rattle.tsp_lines.proofs.Fronts.{ahead_within}
use Rattle.tsp_audit_command.proofs.StandLemmas.{Tried_advances}
use Rattle.tsp_audit_command.proofs.check.CheckTreatment.try_front.Goals as goal

pub returns-clause-tries : goal.returns-clause-tries
returns-clause-tries g c lines text stands accepts room =
    Tried_advances lines text c.args.octets.now accepts.0 c.try_front.new.self c.try_front.result _ _ accepts.1 accepts.2 c.try_front.ensures.front
    (λ q r. c.try_front.ensures.tries q (stands q r))

pub returns-clause-within : goal.returns-clause-within
returns-clause-within g c = IfSome_then c.try_front.result c.try_front.ensures.front (λ count ahead. ahead_within c.args.octets.now count ahead)
