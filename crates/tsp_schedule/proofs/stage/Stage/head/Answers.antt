-- A node, a network, or the first line behind the header.
use Rattle.std.proofs.Common.{◌∙◌, ap, subst, Ok}
use Rattle.tsp_script.specs.Schedules.{SpellsHead}
use Rattle.tsp_schedule.proofs.StageLemmas.{MatchResult_map, Advances_node, Halts_node, Advances_net, Halts_net, Advances_first, Halts_first}
use Rattle.tsp_schedule.proofs.stage.Stage.head.Goals as goal

pub returns-in-Ok-Node-clause-next : goal.returns-in-Ok-Node-clause-next
returns-in-Ok-Node-clause-next g c =
    let line = c.args.line.now in
    let is = c.in-Ok-Node.is ∙ ap (λ i. Ok i) c.in-Ok-Node.field-0-is in
    let read = rw c.next_place.ensures at c.head_line.ensures in
    let spells = rw c.next_place.ensures at (subst (λ i. SpellsHead c.next_place.result line i) c.in-Ok-Node.field-0-is c.in-Ok-Node.ensures.reads) in
    MatchResult_map c.node.result c.node.ensures.next
    (λ next h. Advances_node g.C.EventHandler.refused g.C.EventHandler.stands c.args.header c.in-Ok-Node.node line next c.head_line.result is read.one spells
    h.0 h.1)
    (λ stop h. Halts_node g.C.EventHandler.refused g.C.EventHandler.stands c.args.header c.in-Ok-Node.node line stop spells h)

pub returns-in-Ok-Net-clause-next : goal.returns-in-Ok-Net-clause-next
returns-in-Ok-Net-clause-next g c =
    let line = c.args.line.now in
    let is = c.in-Ok-Net.is ∙ ap (λ i. Ok i) c.in-Ok-Net.field-0-is in
    let read = rw c.next_place.ensures at c.head_line.ensures in
    let spells = rw c.next_place.ensures at (subst (λ i. SpellsHead c.next_place.result line i) c.in-Ok-Net.field-0-is c.in-Ok-Net.ensures.reads) in
    MatchResult_map c.net.result c.net.ensures.next
    (λ next h. Advances_net g.C.EventHandler.refused g.C.EventHandler.stands c.args.header c.in-Ok-Net.members line next c.head_line.result is read.one spells
    h.0 h.1)
    (λ stop h. Halts_net g.C.EventHandler.refused g.C.EventHandler.stands c.args.header c.in-Ok-Net.members line stop spells h)

pub returns-in-Ok-NotHead-clause-next : goal.returns-in-Ok-NotHead-clause-next
returns-in-Ok-NotHead-clause-next g c =
    let line = c.args.line.now in
    let is = c.in-Ok-NotHead.is ∙ ap (λ i. Ok i) c.in-Ok-NotHead.field-0-is in
    let read = rw c.next_place.ensures at c.head_line.ensures in
    let spells = rw c.next_place.ensures at (subst (λ i. SpellsHead c.next_place.result line i) c.in-Ok-NotHead.field-0-is c.in-Ok-NotHead.ensures.reads) in
    MatchResult_map c.first.result c.first.ensures.next
    (λ next h. Advances_first g.C.EventHandler.refused g.C.EventHandler.stands c.args.header line next c.head_line.result is read.one spells h.0 h.1)
    (λ stop h. Halts_first g.C.EventHandler.refused g.C.EventHandler.stands c.args.header line stop spells h)
