use Rattle.tsp_sends.proofs.{SearchLemmas.IsFirstAfter_next, SlotLemmas.Rising_ascending}
use Rattle.tsp_sends.proofs.slots.Slots.place_after.Goals as goal

pub returns-in-Ok : goal.returns-in-Ok
returns-in-Ok c = IsFirstAfter_next c.args.self.now c.args.after c.in-Some.peer c.in-Ok.place (Rising_ascending _ c.requires) c.in-Some.is c.in-Ok.ensures
