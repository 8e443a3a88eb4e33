-- No event's line is so long.
use Rattle.tsp_schedule.proofs.LongLines.{Refuses_running}
use Rattle.tsp_schedule.proofs.run.Run.refuse_long.Goals as goal

pub returns : goal.returns
returns g c = λ p s line l. rw c.of-2.ensures (Refuses_running g.C.EventHandler.refused g.C.EventHandler.stands p c.args.self.now line s c.if-self.false l)
