-- A refused event stops the reading as its fault says.
use Rattle.tsp_schedule.proofs.StageLemmas.{HaltsEvent_stops}
use Rattle.tsp_schedule.proofs.run.Run.happen.Goals as goal

pub returns-in-Err-clause-next : goal.returns-in-Err-clause-next
returns-in-Err-clause-next g c header events w = HaltsEvent_stops g.C.EventHandler.refused g.C.EventHandler.stands header events c.args.e.now c.in-Err.fault
    c.stop_of.result c.stop_of.ensures.stops (c.in-Err.ensures.fault header events w)
