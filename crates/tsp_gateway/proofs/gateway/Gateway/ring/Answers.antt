-- What the port does is what the node does.
use Rattle.std.proofs.Common.{◌≡◌, true, false, refl, subst, arith}
use Rattle.tsp_rules.specs.{Answers.rings, Guards.is_over}
use Rattle.tsp_node.{proofs.TakeEmits.emits_rings, specs.declared.part.Part.Part}
use Rattle.tsp_gateway.proofs.LiftLemmas.{part_there, set_there}
use Rattle.tsp_gateway.proofs.AnyLemmas.{peers_there, ports_set}
use Rattle.tsp_gateway.proofs.TurnLemmas.{All_rung, moves_not, rings_still}
use Rattle.tsp_gateway.proofs.gateway.Gateway.ring.Goals as goal

pub returns : goal.returns
returns g c =
    let items = c.args.self.now.ports.items in
    let there = part_there c.args.self.now c.args.q c.index_mut.result.now c.requires.port c.index_mut.ensures.value in
    let many = peers_there items c.args.q c.index_mut.result.now there in
    let row = rings true c.args.wait c.args.alarm in
    let room = c.ring.ensures.room in
    record {
      row = All_rung c.ring.new.self row (emits_rings true c.args.wait c.args.alarm)
          (rings_still true c.args.wait c.args.alarm (moves_not c.args.alarm c.requires.alarm)) there refl refl
          (rw c.port_at.ensures at (c.ring.ensures.row (λ e. absurd (c.requires.alarm e))));
      over = λ e part is. subst (λ (p : Part). is_over p.station.alarms.probe c.args.tick ≡ false)
          (set_there items c.args.q c.ring.new.self part is) (c.ring.ensures.over e);
      ports = ports_set items c.args.q c.index_mut.result.now c.ring.new.self there c.ring.ensures.peers;
      clock = c.ring.ensures.clock;
      room = record { spare = omega (arith, many, room.spare); few = omega (arith, many, room.few) };
    }

pub ring-requires : goal.ring-requires
ring-requires g c =
    let there = part_there c.args.self.now c.args.q c.index_mut.result.now c.requires.port c.index_mut.ensures.value in
    let many = peers_there c.args.self.now.ports.items c.args.q c.index_mut.result.now there in
    record { room = omega (arith, many, c.requires.room); tick = c.requires.tick; later = c.requires.later }

pub invariant_of-self : goal.invariant_of-self
invariant_of-self g c = record { some = c.args.self.now.some; few = c.args.self.now.few; memory = c.args.self.now.memory }
