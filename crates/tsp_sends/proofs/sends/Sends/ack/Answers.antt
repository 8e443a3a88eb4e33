-- The slot that was found has the send, which ends.
use Rattle.std.proofs.Common.{None, refl, sym, ap, ◌∙◌}
use Rattle.tsp_sends.{proofs.SearchLemmas.sending_to_no_place, specs.Slots.empty_slot, specs.Slots.has_number}
use Rattle.tsp_sends.proofs.SendsLemmas.{sending_found, SetsOnly_fill, peers_of_fill}
use Rattle.tsp_sends.proofs.sends.Sends.ack.Goals as goal

pub returns-in_default-clause-ends : goal.returns-in_default-clause-ends
returns-in_default-clause-ends c = rw (← c.self.view_is, sending_to_no_place c.self.inside.slots c.args.peer c.in_default.field-0 c.in_default.ensures) refl

pub returns-then-ends : goal.returns-then-ends
returns-then-ends c =
    let place = rw c.self.view_is at c.in-Ok.ensures in
    record {
      ends = rw (← c.self.view_is) (c.has_number-ends.ensures (empty_slot c.args.peer) ∙ ap (has_number c.args.number)
          (sym (sending_found c.self.inside.slots c.args.peer c.in-Ok.place (empty_slot c.args.peer) c.self.invariant.ascending c.in-Ok.ensures)));
      sends = rw c.if-ends.true (SetsOnly_fill c.args.self.now c.fill.new.self c.args.peer c.in-Ok.place None (rw c.self.view_is at c.self.invariant.ascending)
          place c.fill.ensures);
      peers = peers_of_fill c.args.self.now c.fill.new.self c.in-Ok.place None c.fill.ensures;
    }

pub returns-else-ends-clause-ends : goal.returns-else-ends-clause-ends
returns-else-ends-clause-ends c =
    rw (← c.self.view_is) (c.has_number-ends.ensures (empty_slot c.args.peer) ∙ ap (has_number c.args.number)
    (sym (sending_found c.self.inside.slots c.args.peer c.in-Ok.place (empty_slot c.args.peer) c.self.invariant.ascending c.in-Ok.ensures)))
