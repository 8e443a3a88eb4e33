-- Each has its call.
use Rattle.std.proofs.Common.{refl, sym}
use Rattle.tsp_node.proofs.part.Part.note_due.Goals as goal

pub repeat-requires : goal.repeat-requires
repeat-requires g c = record { peer = rw c.in-Again.is at c.requires.peer }

pub returns-in-Again-clause-noted : goal.returns-in-Again-clause-noted
returns-in-Again-clause-noted g c = rw c.in-Again.is (refl, λ past still h. c.repeat.ensures.stands past c.in-Again.message (sym c.kind.ensures) still h)

pub returns-in-Gave-clause-noted : goal.returns-in-Gave-clause-noted
returns-in-Gave-clause-noted g c = rw c.in-Gave.is (c.give_up.ensures.row c.args.tick)
