use Rattle.std.proofs.Common.{subst}
use Rattle.tsp_schedule.specs.Stages.{StageStands}
use Rattle.tsp_schedule.proofs.LongLines.{Refuses_titled, Refuses_drifted, Refuses_heading}
use Rattle.tsp_schedule.proofs.stage.Stage.refuse_long.Goals as goal

pub returns-in-Titled : goal.returns-in-Titled
returns-in-Titled g c = λ p s line l e. rw c.of-in-Titled.ensures (Refuses_titled g.C.EventHandler.refused g.C.EventHandler.stands p _ line
    (subst (λ t. StageStands g.C.EventHandler.stands p t) c.in-Titled.is s) l)

pub returns-in-Drifted : goal.returns-in-Drifted
returns-in-Drifted g c = λ p s line l e. rw c.of-in-Drifted.ensures (Refuses_drifted g.C.EventHandler.refused g.C.EventHandler.stands p _ line
    (subst (λ t. StageStands g.C.EventHandler.stands p t) c.in-Drifted.is s) l)

pub returns-in-Heading : goal.returns-in-Heading
returns-in-Heading g c = λ p s line l e. Refuses_heading g.C.EventHandler.refused g.C.EventHandler.stands p _ line _
    (subst (λ t. StageStands g.C.EventHandler.stands p t) c.in-Heading.is s) (c.head_refuses_long.ensures line l e)

pub returns-in-Running : goal.returns-in-Running
returns-in-Running g c = λ p s line l e. c.refuse_long.ensures p (subst (λ t. StageStands g.C.EventHandler.stands p t) c.in-Running.is s) line l
