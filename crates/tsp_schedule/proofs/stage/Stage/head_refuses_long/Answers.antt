use Rattle.tsp_schedule.proofs.LongLines.{Refuses_node, Refuses_net, Refuses_none, Refuses_other, not_head}
use Rattle.std.proofs.lemmas.Bool.{MatchBool-at_true, MatchBool-at_false}
use Rattle.tsp_schedule.proofs.stage.Stage.head_refuses_long.Goals as goal

pub returns-then-is_node : goal.returns-then-is_node
returns-then-is_node g c = λ line l e. rw c.of.ensures (Refuses_node g.C.EventHandler.refused g.C.EventHandler.stands c.args.header.now line c.args.start.now l
    e (MatchBool-at_true _ _ c.if-is_node.true c.is_node.ensures))

pub returns-then-is_net : goal.returns-then-is_net
returns-then-is_net g c = λ line l e. rw c.of-then-is_net.ensures (Refuses_net g.C.EventHandler.refused g.C.EventHandler.stands c.args.header.now line
    c.args.start.now l e (MatchBool-at_true _ _ c.if-is_net.true c.is_net.ensures))

pub returns-then-not-is_complete : goal.returns-then-not-is_complete
returns-then-not-is_complete g c = λ line l e.
    let behind = not_head c.args.header.now line c.args.start.now l e (MatchBool-at_false _ _ c.if-is_node.false c.is_node.ensures)
    (MatchBool-at_false _ _ c.if-is_net.false c.is_net.ensures) in
    rw c.of-then-not-is_complete.ensures (Refuses_none g.C.EventHandler.refused g.C.EventHandler.stands c.args.header.now line behind
    (MatchBool-at_false _ _ c.if-not-is_complete.true c.is_complete.ensures))

pub returns : goal.returns
returns g c = λ line l e.
    let behind = not_head c.args.header.now line c.args.start.now l e (MatchBool-at_false _ _ c.if-is_node.false c.is_node.ensures)
    (MatchBool-at_false _ _ c.if-is_net.false c.is_net.ensures) in
    rw c.of-2.ensures (Refuses_other g.C.EventHandler.refused g.C.EventHandler.stands c.args.header.now line l behind
    (MatchBool-at_true _ _ c.if-not-is_complete.false c.is_complete.ensures))
