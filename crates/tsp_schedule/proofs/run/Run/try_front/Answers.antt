-- Where the last line wasn't read, the first line is tried.
use Rattle.tsp_schedule.proofs.StageLemmas.{Running_tried}
use Rattle.tsp_schedule.proofs.run.Run.try_front.Goals as goal

pub returns-clause-tries : goal.returns-clause-tries
returns-clause-tries g c p stands = Running_tried g.C.EventHandler.refused g.C.EventHandler.stands p c.args.self.now c.try_on.new.self c.args.text.now
    c.try_on.result stands c.if-self.false c.try_on.ensures.tries
