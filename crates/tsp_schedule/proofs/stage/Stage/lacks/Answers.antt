-- Behind the header the run says it.
use Rattle.std.proofs.Common.{subst}
use Rattle.tsp_schedule.specs.Stages.{StageStands}
use Rattle.tsp_schedule.proofs.stage.Stage.lacks.Goals as goal

pub returns-in-Running : goal.returns-in-Running
returns-in-Running g c = λ p s. c.lacks.ensures p (subst (λ t. StageStands g.C.EventHandler.stands p t) c.in-Running.is s)
