-- The clock is the past's.
use Rattle.std.proofs.Common.{◌∙◌}
use Rattle.tsp_gateway.proofs.ReadingLemmas.{corrected_there}
use Rattle.tsp_gateway.proofs.gateway.Gateway.corrected.Goals as goal

pub returns-clause-past : goal.returns-clause-past
returns-clause-past c past h = c.corrected.ensures.value ∙ corrected_there past c.args.self.now h
