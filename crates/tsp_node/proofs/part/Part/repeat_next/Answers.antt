-- A due send is posted again or given up, and the master notes it.
use Rattle.std.proofs.Common.{refl}
use Rattle.tsp_node.proofs.{DueSendLemmas.Performs_noted, PartLemmas.still_alike}
use Rattle.tsp_node.proofs.part.Part.repeat_next.Goals as goal

pub returns-clause-row : goal.returns-clause-row
returns-clause-row g c clock =
    let note = c.note_due.ensures in
    let sends = rw (← note.rest.station) at c.in-Some.ensures.sends in
    let row = rw (← note.rest.station) at c.in-Some.ensures.row in
    Performs_noted c.args.after c.in-Some.due sends note.rest.last note.rest.resolve note.rest.dates refl row note.noted

pub invariant_of-self : goal.invariant_of-self
invariant_of-self g c = still_alike c.args.self.now refl refl refl c.repeat_next.ensures.rest.peers
