-- Who answers while the port asks is marked, and put where it wasn't marked before.
use Rattle.std.proofs.Common.{◌∙◌, sym}
use Rattle.tsp_resolve.proofs.ResolveLemmas.{Performs_answered, Performs_answered_again, Performs_unasked}
use Rattle.tsp_resolve.proofs.resolve.Resolve.rival.Goals as goal

pub returns-in-None-clause-row : goal.returns-in-None-clause-row
returns-in-None-clause-row g c role x =
    Performs_unasked c.args.from x c.args.port c.args.station.now c.args.self.now c.args.self.now (g.D.Desk.acts c.args.desk.now)
    (g.D.Desk.acts c.args.desk.now) (sym c.at.ensures ∙ c.in-None.is)

pub returns-then-find-clause-row : goal.returns-then-find-clause-row
returns-then-find-clause-row g c role x =
    let found = rw c.peers.ensures.value at c.find.ensures.found in
    let marks = rw c.peers.ensures.value at c.find.ensures.marks in
    Performs_answered c.args.from x c.args.port c.args.station.now c.args.self.now c.find.new.self (g.D.Desk.acts c.args.desk.now) _ c.in-Some.field-0
    (sym c.at.ensures ∙ c.in-Some.is) role c.find.ensures.many marks
    (sym found ∙ c.if-find.true) c.put.ensures.acts

pub returns-else-find-clause-row : goal.returns-else-find-clause-row
returns-else-find-clause-row g c role x =
    let found = rw c.peers.ensures.value at c.find.ensures.found in
    let marks = rw c.peers.ensures.value at c.find.ensures.marks in
    Performs_answered_again c.args.from x c.args.port c.args.station.now c.args.self.now c.find.new.self (g.D.Desk.acts c.args.desk.now)
    (g.D.Desk.acts c.args.desk.now) c.in-Some.field-0 (sym c.at.ensures ∙ c.in-Some.is) c.find.ensures.many marks
    (sym found ∙ c.if-find.false)
