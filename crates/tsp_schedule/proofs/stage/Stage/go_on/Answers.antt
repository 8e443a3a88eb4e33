-- The stage is that of the next line.
use Rattle.std.proofs.Common.{subst, sym}
use Rattle.tsp_schedule.specs.Stages.{StageStands}
use Rattle.tsp_schedule.proofs.stage.Stage.go_on.Goals as goal

pub returns-in-Ok-clause-next : goal.returns-in-Ok-clause-next
returns-in-Ok-clause-next g c p stands = c.in-Ok.ensures.next p (subst (λ s. StageStands g.C.EventHandler.stands p s) (sym c.replace.ensures.value) stands)

pub returns-in-Err-clause-next : goal.returns-in-Err-clause-next
returns-in-Err-clause-next g c p stands = c.in-Err.ensures.next p (subst (λ s. StageStands g.C.EventHandler.stands p s) (sym c.replace.ensures.value) stands)
