-- Where the header has ended the run goes on in its place.
use Rattle.std.proofs.Common.{subst}
use Rattle.tsp_schedule.specs.Stages.{StageStands}
use Rattle.tsp_schedule.proofs.stage.Stage.advance.Goals as goal

pub returns-in-Running-clause-next : goal.returns-in-Running-clause-next
returns-in-Running-clause-next g c p stands = c.advance.ensures.next p (subst (λ s. StageStands g.C.EventHandler.stands p s) c.in-Running.is stands)
