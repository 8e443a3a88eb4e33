-- What the port does is what the node does.
use Rattle.std.proofs.Common.{true, false, refl, arith}
use Rattle.tsp_node.{proofs.TakeEmits.emits_takes, specs.NodeStands.TakeStands}
use Rattle.tsp_rules.specs.NodeRows.{on_port}
use Rattle.tsp_gateway.specs.GatewayStands.{GatewayStands, port_at}
use Rattle.tsp_gateway.proofs.LiftLemmas.{All_on, part_there, take_stands}
use Rattle.tsp_gateway.proofs.gateway.Gateway.take_other.Goals as goal
use Rattle.tsp_gateway.proofs.{TakeLemmas.other_still, AnyLemmas.peers_there, AnyLemmas.ports_set}

pub returns : goal.returns
returns g c =
    let q = c.args.q in
    let from = c.args.from in
    let taken = c.args.taken.now in
    let there = part_there c.args.self.now q c.index_mut.result.now c.requires.port c.index_mut.ensures.value in
    let many = peers_there c.args.self.now.ports.items q c.index_mut.result.now there in
    let room = c.take.ensures.room in
    record {
      row = All_on {W = GatewayStands} {P = TakeStands} {Q = TakeStands} false c.index_mut.result.now c.take.new.self (emits_takes true true from taken)
          (λ past w. other_still from taken c.requires.other c.args.tick (on_port (port_at q) past)) refl (λ past w. w)
          (λ past w. take_stands q past c.args.self.now c.index_mut.result.now there w) (λ past t. t) (rw c.port_at-port.ensures at c.take.ensures.row);
      ports = ports_set c.args.self.now.ports.items q c.index_mut.result.now c.take.new.self there c.take.ensures.peers;
      clock = c.take.ensures.clock;
      room = record { spare = omega (arith, many, room.spare); few = omega (arith, many, room.few) };
    }

pub take-requires : goal.take-requires
take-requires g c =
    let there = part_there c.args.self.now c.args.q c.index_mut.result.now c.requires.port c.index_mut.ensures.value in
    let many = peers_there c.args.self.now.ports.items c.args.q c.index_mut.result.now there in
    record { room = omega (arith, many, c.requires.room); tick = c.requires.tick.0; later = c.requires.tick.1 }

pub invariant_of-self : goal.invariant_of-self
invariant_of-self g c = record { some = c.args.self.now.some; few = c.args.self.now.few; memory = c.args.self.now.memory }
