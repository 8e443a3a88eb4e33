-- The earliest of what the station has is the earliest of what its past has.
use Rattle.std.proofs.Common.{◌≡◌, ◌∙◌, ap, sym}
use Rattle.tsp_base.specs.Words.{earlier, least_deadline, armed}
use Rattle.tsp_node.{proofs.DueLemmas.IsEarliest_open, specs.NodeStands.due_of}
use Rattle.tsp_node.proofs.node.Node.due.Goals as goal

pub returns-in-Some-clause-past : goal.returns-in-Some-clause-past
returns-in-Some-clause-past c past h =
    let due = c.due.ensures in
    let same : c.due.result ≡ earlier (least_deadline (armed past.seen)) due.sends = due.due_is ∙
    ap (λ d. earlier (least_deadline d) due.sends) h.port.station.alarms in
    (due.sends, IsEarliest_open past c.args.self.now.part.station due.sends h.port.station due.first, ap due_of (sym c.in-Some.is ∙ same))
