-- One port after the other.
use Rattle.std.proofs.Common.{◌≡◌, ◌<◌, ◌∙◌, arith, length, refl, rules, subst, sym, vec_len}
use Rattle.tsp_rules.specs.NodeRows.{abandons_on}
use Rattle.tsp_gateway.proofs.{AnyLemmas.places, PortsInTurn.last_port, PortsInTurn.next_port, PortsInTurn.no_port, PortsInTurn.upset_all}
use Rattle.tsp_gateway.proofs.gateway.Gateway.abandon_each.Goals.{then-is_upset, else-is_upset}
use Rattle.tsp_gateway.proofs.gateway.Gateway.abandon_each.Goals as goal

pub loop-r-init : goal.loop-r-init
loop-r-init g c = record { row = λ x last new d. d; ports = refl; clock = refl; room = record { spare = omega arith; few = omega arith } }

pub loop-r-preserved : goal.loop-r-preserved
loop-r-preserved g c =
    let old = c.args.self.now in
    let n = length old.ports.items in
    let r = c.loop-r.r in
    let i = c.loop-r.invariant in
    let len : vec_len old.ports ≡ length old.ports.items = search rules in
    let inside : r < n = omega (arith, len, c.len-r-end.ensures, c.loop-r-test.true) in
    elim c.if-is_upset.branch [
      | then-is_upset w ↦ rw (w.self-is, w.desk-is) (record {
        row = λ x last new d. i.row x last new (next_port abandons_on c.args.whole c.args.q r n x inside (sym c.is_upset.ensures ∙
            w.if-is_upset.true) (w.abandon.ensures.row x) d);
        ports = w.abandon.ensures.ports ∙ i.ports;
        clock = w.abandon.ensures.clock ∙ i.clock;
        room = record { spare = omega (arith, i.room.spare, w.abandon.ensures.room.spare); few = omega (arith, i.room.few, w.abandon.ensures.room.few) };
      })
      | else-is_upset w ↦ rw (w.self-is, w.desk-is) (record {
        row = λ x last new d. i.row x last new (no_port abandons_on c.args.whole c.args.q r n x inside (sym c.is_upset.ensures ∙ w.if-is_upset.false) d);
        ports = i.ports;
        clock = i.clock;
        room = record { spare = omega (arith, i.room.spare); few = omega (arith, i.room.few) };
      })
    ]

pub returns-clause-row : goal.returns-clause-row
returns-clause-row g c x =
    let old = c.args.self.now in
    let len : vec_len old.ports ≡ length old.ports.items = search rules in
    let end = c.len-r-end.ensures in
    upset_all abandons_on c.args.whole c.args.q x (λ past h. h)
    (c.loop-r.invariant.row x c.loop-r.self (g.D.Desk.acts c.loop-r.desk) (last_port abandons_on c.args.whole c.args.q c.loop-r.r (length old.ports.items) x
    (omega (arith, len, end, c.loop-r-test.false)) (λ past h. h)))

pub abandon-requires : goal.abandon-requires
abandon-requires g c =
    let old = c.args.self.now in
    let len = places old in
    let end = c.len-r-end.ensures in
    record {
      port = subst (λ ps. c.loop-r.r < length ps) (sym c.loop-r.invariant.ports) (omega (arith, len, end, c.loop-r-test.true));
      room = omega (arith, len, end, c.loop-r-test.true, c.loop-r.invariant.room.spare, c.requires.room);
    }

pub returns-clause-room : goal.returns-clause-room
returns-clause-room g c =
    let old = c.args.self.now in
    let len = places old in
    let end = c.len-r-end.ensures in
    let auto = c.loop-r.auto in
    record { spare = omega (arith, len, end, auto, c.loop-r.invariant.room.spare); few = omega (arith, len, end, auto, c.loop-r.invariant.room.few) }
