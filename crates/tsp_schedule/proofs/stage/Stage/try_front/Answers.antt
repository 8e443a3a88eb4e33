-- Where the header has ended the run goes on in its place.
use Rattle.std.proofs.Common.{subst}
use Rattle.tsp_schedule.specs.Stages.{StageStands}
use Rattle.tsp_schedule.proofs.stage.Stage.try_front.Goals as goal

pub returns-in-Running-clause-tries : goal.returns-in-Running-clause-tries
returns-in-Running-clause-tries g c p stands = c.try_front.ensures.tries p (subst (λ s. StageStands g.C.EventHandler.stands p s) c.in-Running.is stands)
