-- By what the quotient is.
use Rattle.tsp_io.proofs.ReachLemmas.{reach_comes, reach_few, reach_first}
use Rattle.tsp_io.proofs.speed.reach.Goals as goal

pub returns-clause-few : goal.returns-clause-few
returns-clause-few c = reach_few c.args.speed c.args.ticks c.requires.low c.requires.ticks

pub returns-clause-come : goal.returns-clause-come
returns-clause-come c = reach_comes c.args.speed c.args.ticks c.requires.low

pub returns-clause-first : goal.returns-clause-first
returns-clause-first c = λ e enough. reach_first c.args.speed c.args.ticks e c.requires.low enough
