-- The alarm, and then the posts.
use Rattle.tsp_base.proofs.PerformsLemmas.{Performs_then}
use Rattle.tsp_rules.specs.CommonRows.{searches}
use Rattle.tsp_slave.proofs.ring.search.Goals as goal

pub returns-clause-row : goal.returns-clause-row
unfolding searches
returns-clause-row g c = Performs_then c.arm.ensures.row (c.post_to_others.ensures.row c.args.tick)
