-- The schedule took the line; it may have a node too many then.
use Rattle.std.proofs.Common.{◌≤◌, ◌∙◌, refl, subst, sym}
use Rattle.tsp_audit_command.specs.Listings.{most_nodes}
use Rattle.tsp_audit_command.proofs.StandLemmas.{Halts_many, IsLast_by, ok_same}
use Rattle.tsp_audit_command.proofs.check.read_on.Goals as goal

pub returns-then-node_count-gt-MOST_NODES-clause-next : goal.returns-then-node_count-gt-MOST_NODES-clause-next
returns-then-node_count-gt-MOST_NODES-clause-next c p stands =
    Halts_many p c.args.line.now c.advance.new.self c.node_count.result (c.in-Ok.ensures.next p stands) c.node_count.ensures.count
    c.if-node_count-gt-MOST_NODES.true

pub returns-else-node_count-gt-MOST_NODES-clause-next : goal.returns-else-node_count-gt-MOST_NODES-clause-next
returns-else-node_count-gt-MOST_NODES-clause-next c p stands =
    let a = c.in-Ok.ensures.next p stands in
    (a, subst (λ n. n ≤ most_nodes) (c.node_count.ensures.count a.to a.stands_for) c.if-node_count-gt-MOST_NODES.false, sym c.is_over.ensures)

pub returns-else-node_count-gt-MOST_NODES-clause-last : goal.returns-else-node_count-gt-MOST_NODES-clause-last
returns-else-node_count-gt-MOST_NODES-clause-last c e =
    IsLast_by c.advance.new.self c.node_count.result c.node_count.ensures.few c.if-node_count-gt-MOST_NODES.false (sym c.is_over.ensures ∙ ok_same _ refl e)
