-- The entry that is found is the peer's; a peer without one is idle.
use Rattle.std.proofs.Common.{sym, ◌∙◌}
use Rattle.tsp_measure.proofs.Entries.{Rising_peers, entry_of_at, entry_of_absent}
use Rattle.tsp_measure.proofs.slaves.Slaves.of.Goals as goal

pub returns-in-Ok : goal.returns-in-Ok
returns-in-Ok c =
    let place = rw (c.deref.ensures.value, c.self.view_is) at c.in-Ok.ensures in
    let is = rw c.self.view_is at c.index.ensures in
    is ∙ sym (entry_of_at c.args.self.now c.in-Ok.place c.index.result.now c.args.peer (Rising_peers c.args.self.now (rw c.self.view_is at c.self.invariant))
    place.0 (place.1 c.index.result.now))

pub returns-in-Err : goal.returns-in-Err
returns-in-Err c =
    let place = rw (c.deref.ensures.value, c.self.view_is) at c.in-Err.ensures in
    c.idle.ensures ∙ sym (entry_of_absent c.args.self.now c.args.peer place)
