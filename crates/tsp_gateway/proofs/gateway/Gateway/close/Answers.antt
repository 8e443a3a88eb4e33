-- What the port does, and what it stirs where it has corrected.
use Rattle.std.proofs.Common.{ap, length, ◌∙◌, false, refl, sym, arith}
use Rattle.tsp_rules.specs.{Answers.rings, GateRows.alarm_on, GateRows.closes_on, GateRows.leads_clock, NodeRows.on_port, Values.CloseAlarm}
use Rattle.tsp_master.specs.MasterAlarms.{IsInTurn}
use Rattle.tsp_node.proofs.TakeEmits.{emits_rings}
use Rattle.tsp_gateway.{proofs.LiftLemmas.All_reading, proofs.LiftLemmas.part_there, specs.GatewayStands.port_at}
use Rattle.tsp_gateway.proofs.AnyLemmas.{peers_there, ports_few, ports_set}
use Rattle.tsp_gateway.proofs.TurnLemmas.{All_calm, All_upset, untaken_there}
use Rattle.tsp_gateway.proofs.gateway.Gateway.close.Goals as goal

pub returns-then-ring : goal.returns-then-ring
unfolding alarm_on closes_on
returns-then-ring g c = record {
  row =
      let q = c.args.q in
      let own = c.leads_clock-own.result in
      let there = part_there c.args.self.now q c.index_mut.result.now c.requires.port c.index_mut.ensures.value in
      let turn : IsInTurn CloseAlarm c.index_mut.result.now.station.alarms c.args.tick = λ e. c.requires.order c.index_mut.result.now there in
      All_reading (leads_clock (port_at q)) (closes_on (port_at q)) own (λ past h. sym (c.leads_clock-own.ensures c.args.tick past h.stands))
      (All_upset c.ring.new.self (rings own false CloseAlarm) (emits_rings own false CloseAlarm)
      (λ past w. sym (c.ring.ensures.corrects turn (on_port (port_at q) past) (untaken_there _ q past c.args.self.now c.index_mut.result.now there w)) ∙
      c.if-ring.true)
      there refl refl (rw c.port_at.ensures at (c.ring.ensures.row turn)) (c.upset.ensures.row c.args.tick));
  ports = c.upset.ensures.ports ∙ ports_set c.args.self.now.ports.items c.args.q c.index_mut.result.now c.ring.new.self
      (part_there c.args.self.now c.args.q c.index_mut.result.now c.requires.port c.index_mut.ensures.value) c.ring.ensures.peers;
  clock = omega (arith, c.upset.ensures.clock, c.ring.ensures.clock);
  room =
      let there = part_there c.args.self.now c.args.q c.index_mut.result.now c.requires.port c.index_mut.ensures.value in
      let many = peers_there c.args.self.now.ports.items c.args.q c.index_mut.result.now there in
      let same = ap length (ports_set c.args.self.now.ports.items c.args.q c.index_mut.result.now c.ring.new.self there c.ring.ensures.peers) in
      let few = ports_few c.args.self.now in
      let first = c.ring.ensures.room in
      let more = c.upset.ensures.room in
      record { spare = omega (arith, many, same, few, first.spare, more.spare); few = omega (arith, many, same, few, first.few, more.few) };
}

pub returns-else-ring : goal.returns-else-ring
unfolding alarm_on closes_on
returns-else-ring g c =
    let q = c.args.q in
    let own = c.leads_clock-own.result in
    let there = part_there c.args.self.now q c.index_mut.result.now c.requires.port c.index_mut.ensures.value in
    let many = peers_there c.args.self.now.ports.items q c.index_mut.result.now there in
    let turn : IsInTurn CloseAlarm c.index_mut.result.now.station.alarms c.args.tick = λ e. c.requires.order c.index_mut.result.now there in
    let room = c.ring.ensures.room in
    record {
      row = All_reading (leads_clock (port_at q)) (closes_on (port_at q)) own (λ past h. sym (c.leads_clock-own.ensures c.args.tick past h.stands))
          (All_calm c.ring.new.self (rings own false CloseAlarm) (emits_rings own false CloseAlarm)
          (λ past w.
          sym (c.ring.ensures.corrects turn (on_port (port_at q) past) (untaken_there _ q past c.args.self.now c.index_mut.result.now there w)) ∙
          c.if-ring.false)
          there refl refl (rw c.port_at.ensures at (c.ring.ensures.row turn)));
      ports = ports_set c.args.self.now.ports.items q c.index_mut.result.now c.ring.new.self there c.ring.ensures.peers;
      clock = c.ring.ensures.clock;
      room = record { spare = omega (arith, many, room.spare); few = omega (arith, many, room.few) };
    }

pub ring-requires : goal.ring-requires
ring-requires g c =
    let there = part_there c.args.self.now c.args.q c.index_mut.result.now c.requires.port c.index_mut.ensures.value in
    let many = peers_there c.args.self.now.ports.items c.args.q c.index_mut.result.now there in
    record { room = omega (arith, many, c.requires.room); tick = c.requires.tick; later = c.requires.later }

pub upset-requires : goal.upset-requires
upset-requires g c =
    let there = part_there c.args.self.now c.args.q c.index_mut.result.now c.requires.port c.index_mut.ensures.value in
    let many = peers_there c.args.self.now.ports.items c.args.q c.index_mut.result.now there in
    let same = ap length (ports_set c.args.self.now.ports.items c.args.q c.index_mut.result.now c.ring.new.self there c.ring.ensures.peers) in
    record { room = omega (arith, many, same, ports_few c.args.self.now, c.ring.ensures.room.spare, c.requires.room) }

pub leads_clock-own-requires : goal.leads_clock-own-requires
leads_clock-own-requires g c = c.requires.port

pub invariant_of-self : goal.invariant_of-self
invariant_of-self g c = record { some = c.args.self.now.some; few = c.args.self.now.few; memory = c.args.self.now.memory }
