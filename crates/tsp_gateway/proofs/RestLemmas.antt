-- A node does nothing in a turn before its deadline.
use Rattle.std.proofs.Common.{arith, get_or, subst, sym, ◌∙◌, ℕ, zero, suc, ◌≡◌, ◌+◌, ◌<◌, true, List, length, None, Some, slice_get, refl}
use Rattle.std.proofs.lemmas.Option.{same_Some, slice_get-get_or, slice_get_within}
use Rattle.tsp_rules.specs.GateRows.{NodeTurn, all_ports, answers_all, input_all, turns_on}
use Rattle.tsp_rules.specs.{NodePerforms.PerformsAll, NodeRows.for_ports, NodeRows.nothing_at_all, NodeRows.reading_all, Values.Placed}
use Rattle.tsp_rules.proofs.NodeRowLemmas.{All_then}
use Rattle.tsp_node.specs.declared.part.Part.{Part}
use Rattle.tsp_gateway.specs.{declared.gateway.Gateway.Gateway, Dues.IsGatewayDue, Dues.RestsUntil, Dues.Waits, Dues.least_of}
use Rattle.tsp_gateway.specs.GatewayStands.{GatewayBegun, GatewayStands, GatewayTurning}
use Rattle.tsp_gateway.proofs.{DueLemmas.before_over, DueLemmas.none_over, TurnLemmas.All_waits, TurnLemmas.Waits_before}
use Rattle.tsp_gateway.proofs.LiftLemmas.{All_nothing, All_same, part_of, ports_many}
use Rattle.tsp_gateway.proofs.PortsInTurn.{last_port, left, next_port, upset_all}

-- nothing of a node is due before its deadline
pub RestsUntil_deadline : (g : Gateway) (due : ℕ) → IsGatewayDue g due → RestsUntil due g
RestsUntil_deadline g due d x q part before there =
    let own = get_or d.dues q None in
    let has : slice_get d.dues q ≡ Some own = slice_get-get_or d.dues q None (let inside = slice_get_within g.ports.items q part there in let many = d.many in
    omega (arith, inside, many)) in
    let one = d.each q own has in
    let waits = Waits_before x one.0 own one.2 (none_over d.dues q x own has (before_over (least_of d.dues) x (subst (λ t. x < t) d.at_is before))) in
    subst (λ (p : Part). Waits x p) (same_Some one.0 part (sym one.1 ∙ there)) waits

-- so many ports that are left do nothing
ports_rest : (count q : ℕ) (g : Gateway) (due x : ℕ) {old : List Placed} → RestsUntil due g → x < due → q + count ≡ length g.ports.items →
    PerformsAll (GatewayTurning q) GatewayStands (for_ports turns_on (left true 0 q (length g.ports.items))) x g g old old
ports_rest zero q g due x rests before all = last_port {P = GatewayTurning q} turns_on true 0 q (length g.ports.items) x (omega (arith, all))
    (λ past h. h.stands)
ports_rest (suc count) q g due x rests before all =
    let inside : q < length g.ports.items = omega (arith, all) in
    let port = part_of g q (subst (λ n. q < n) (sym (ports_many g)) inside) in
    next_port turns_on true 0 q (length g.ports.items) x inside refl (All_waits port.0 port.1 (rests x q port.0 before port.1))
    (ports_rest count (q + 1) g due x rests before (omega (arith, all)))

-- a node of which nothing is due does nothing in a turn
pub turn_rests : (g : Gateway) (due x : ℕ) {old : List Placed} → RestsUntil due g → x < due →
    PerformsAll GatewayBegun GatewayStands (answers_all NodeTurn) x g g old old
unfolding answers_all input_all nothing_at_all reading_all
turn_rests g due x rests before =
    All_then (All_same (reading_all all_ports (for_ports turns_on)) (λ past h. refl) (upset_all turns_on true 0 x (λ past h. h.stands)
    (ports_rest (length g.ports.items) 0 g due x rests before (omega arith)))) All_nothing
