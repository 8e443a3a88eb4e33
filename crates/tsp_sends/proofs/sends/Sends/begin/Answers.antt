use Rattle.std.proofs.Common.{Some}
use Rattle.tsp_sends.proofs.{SearchLemmas.always_found, SendsLemmas.SetsOnly_fill, SendsLemmas.peers_of_fill}
use Rattle.tsp_sends.proofs.sends.Sends.begin.Goals as goal

pub returns-in-Ok-clause-sends : goal.returns-in-Ok-clause-sends
returns-in-Ok-clause-sends c =
    let place = rw c.self.view_is at c.in-Ok.ensures in
    SetsOnly_fill c.args.self.now c.fill.new.self c.args.peer c.in-Ok.place _ (rw c.self.view_is at c.self.invariant.ascending) place
    (rw c.begin.ensures at c.fill.ensures)

pub returns-in-Ok-clause-peers : goal.returns-in-Ok-clause-peers
returns-in-Ok-clause-peers c = peers_of_fill c.args.self.now c.fill.new.self c.in-Ok.place (Some c.begin.result) c.fill.ensures

pub returns-in_default-clause-sends : goal.returns-in_default-clause-sends
returns-in_default-clause-sends c =
    absurd (always_found c.args.self.now c.args.peer c.in_default.field-0 c.requires.peer (rw c.self.view_is at c.in_default.ensures))
