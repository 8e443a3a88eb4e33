-- The boot, and then how its life begins.
use Rattle.std.proofs.Common.{◌≡◌, ◌∙◌, ap, arith, length, refl, w64, to_z, of_z, to_z-of_z}
use Rattle.std.proofs.lemmas.List.{length-append}
use Rattle.tsp_base.proofs.PerformsLemmas.{Performs_then}
use Rattle.tsp_node.proofs.NodeLemmas.{node_by, Performs_put}
use Rattle.tsp_rules.{proofs.BuiltGate.built_starts, proofs.EmitsBuilt.emits_built, specs.CommonRows.boots, specs.Values.Boot}
use Rattle.tsp_node.proofs.node.Node.boot.Goals as goal

pub returns-in-Ok-clause-row : goal.returns-in-Ok-clause-row
unfolding boots
returns-in-Ok-clause-row g c =
    let back : to_z w64 (of_z w64 c.args.wall) ≡ c.args.wall = to_z-of_z c.ranges.wall in
    Performs_then (Performs_put Boot c.put.ensures.acts (λ past h. c.in-Ok.ensures.stands past (rw back h)))
    (node_by {before = c.in-Ok.node} refl (emits_built refl built_starts) (c.begin.ensures.row c.in-Ok.node.clock))

pub returns-in-Ok-clause-ok : goal.returns-in-Ok-clause-ok
returns-in-Ok-clause-ok g c = let ok = c.in-Ok.ensures.ok in let back : to_z w64 (of_z w64 c.args.wall) ≡ c.args.wall = to_z-of_z c.ranges.wall in
    (ok.0, rw (← back) ok.1, c.begin.ensures.peers ∙ ok.2, ok.3)

pub returns-in-Ok-clause-room : goal.returns-in-Ok-clause-room
returns-in-Ok-clause-room g c =
    let one = ap length c.put.ensures.acts ∙ length-append (g.D.Desk.acts c.args.desk.now) _ in
    record { spare = omega (arith, c.put.ensures.spare, c.begin.ensures.room.spare); few = omega (arith, one, c.begin.ensures.room.count) }
