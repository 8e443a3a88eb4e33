-- The flag, and then the answer.
use Rattle.tsp_base.proofs.PerformsLemmas.{Performs_then}
use Rattle.tsp_rules.specs.CommonRows.{traces}
use Rattle.tsp_clients.proofs.ClientLemmas.{Performs_traced, Performs_turned}
use Rattle.tsp_clients.proofs.tracing.turn_trace.Goals as goal

pub returns-clause-row : goal.returns-clause-row
unfolding traces
returns-clause-row g c x =
    Performs_then (Performs_turned c.args.on c.args.station.now c.args.tracing.now c.put.ensures.acts) (Performs_traced c.args.from c.args.number c.args.on
    (c.post_back.ensures.row x))
