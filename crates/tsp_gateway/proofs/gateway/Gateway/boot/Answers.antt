-- The boot, and then how a life begins on each port.
use Rattle.std.proofs.Common.{◌≡◌, ◌∙◌, ap, arith, length, of_z, to_z, to_z-of_z, w64}
use Rattle.std.proofs.lemmas.List.{length-append, length-map}
use Rattle.tsp_base.specs.Words.{puts}
use Rattle.tsp_rules.{proofs.NodeRowLemmas.All_then, specs.GateRows.boots_all, specs.NodeRows.on}
use Rattle.tsp_gateway.specs.Rooms.{ports_in}
use Rattle.tsp_gateway.proofs.gateway.Gateway.boot.Goals as goal

pub returns-clause-row : goal.returns-clause-row
unfolding boots_all on puts
returns-clause-row g c =
    let back : to_z w64 (of_z w64 c.args.wall) ≡ c.args.wall = to_z-of_z c.ranges.wall in
    All_then (record { acts = λ past u. c.put.ensures.acts; stands = λ past u. c.in_ok-gateway.ensures.stands past (rw back u) }) c.begin_all.ensures.row

pub begin_all-requires-clause-room : goal.begin_all-requires-clause-room
begin_all-requires-clause-room g c =
    let many : length (ports_in c.in_ok-gateway.gateway) ≡ length c.args.config.now.ports = ap length c.in_ok-gateway.ensures.ok.2 ∙
    length-map c.args.config.now.ports _ in
    omega (arith, many, c.put.ensures.spare, c.requires.room, c.requires.ports)

pub returns-clause-ok : goal.returns-clause-ok
returns-clause-ok g c =
    let ok = c.in_ok-gateway.ensures.ok in
    let back : to_z w64 (of_z w64 c.args.wall) ≡ c.args.wall = to_z-of_z c.ranges.wall in
    (ok.0, rw (← back) ok.1, c.begin_all.ensures.ports ∙ ok.2, c.begin_all.ensures.clock ∙ ok.3)

pub returns-clause-room : goal.returns-clause-room
returns-clause-room g c =
    let many : length (ports_in c.in_ok-gateway.gateway) ≡ length c.args.config.now.ports = ap length c.in_ok-gateway.ensures.ok.2 ∙
    length-map c.args.config.now.ports _ in
    let one = ap length c.put.ensures.acts ∙ length-append (g.D.Desk.acts c.args.desk.now) _ in
    let room = c.begin_all.ensures.room in
    record { spare = omega (arith, many, c.put.ensures.spare, room.spare, c.requires.ports); few = omega (arith, many, one, room.few, c.requires.ports) }
