-- The slot that was found has the send.
use Rattle.std.proofs.Common.{refl, sym, ap, ◌∙◌}
use Rattle.tsp_sends.specs.Slots.{empty_slot, kind_of}
use Rattle.tsp_sends.proofs.{SearchLemmas.sending_to_no_place, SendsLemmas.sending_found}
use Rattle.tsp_sends.proofs.sends.Sends.kind.Goals as goal

pub returns-in-Ok : goal.returns-in-Ok
returns-in-Ok c =
    rw (← c.self.view_is) (c.kind.ensures (empty_slot c.args.peer) ∙ ap kind_of (sym (sending_found c.self.inside.slots c.args.peer c.in-Ok.place
    (empty_slot c.args.peer) c.self.invariant.ascending c.in-Ok.ensures)))

pub returns-in-Err : goal.returns-in-Err
returns-in-Err c = rw (← c.self.view_is, sending_to_no_place c.self.inside.slots c.args.peer c.in-Err.field-0 c.in-Err.ensures) refl
