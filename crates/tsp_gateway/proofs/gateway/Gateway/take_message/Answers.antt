-- What the port does, and what it stirs where it has corrected.
use Rattle.std.proofs.Common.{ap, length, ◌∙◌, refl, sym, arith}
use Rattle.tsp_gateway.proofs.{LiftLemmas.part_there, AnyLemmas.peers_there, AnyLemmas.ports_few, AnyLemmas.ports_set}
use Rattle.tsp_gateway.proofs.TakeLemmas.{All_passed, All_taken}
use Rattle.tsp_gateway.proofs.gateway.Gateway.take_message.Goals as goal

pub returns-then-corrected : goal.returns-then-corrected
returns-then-corrected g c = record {
  row =
      let q = c.args.q in
      let x = c.args.tick in
      let there = part_there c.args.self.now q c.index_mut.result.now c.requires.port c.index_mut.ensures.value in
      All_taken c.take-corrected.new.self q c.steers-steer.result c.in_charge-charge.result c.args.from c.args.m.now
      (λ past w. (sym (c.steers-steer.ensures x past w), sym (c.in_charge-charge.ensures x past w))) there refl
      (λ past t. sym (rw c.requires.is at (c.take-corrected.ensures.corrects past t)) ∙ c.if-corrected.true) (rw (
        c.port_at-port.ensures,
        c.requires.is,
      ) at c.take-corrected.ensures.row) (rw (c.sets_date.ensures, c.kind.ensures) at (c.upset.ensures.row x));
  ports = c.upset.ensures.ports ∙ ports_set c.args.self.now.ports.items c.args.q c.index_mut.result.now c.take-corrected.new.self
      (part_there c.args.self.now c.args.q c.index_mut.result.now c.requires.port c.index_mut.ensures.value) c.take-corrected.ensures.peers;
  clock = omega (arith, c.upset.ensures.clock, c.take-corrected.ensures.clock);
  room =
      let there = part_there c.args.self.now c.args.q c.index_mut.result.now c.requires.port c.index_mut.ensures.value in
      let many = peers_there c.args.self.now.ports.items c.args.q c.index_mut.result.now there in
      let same = ap length (ports_set c.args.self.now.ports.items c.args.q c.index_mut.result.now c.take-corrected.new.self there
      c.take-corrected.ensures.peers) in
      let few = ports_few c.args.self.now in
      let first = c.take-corrected.ensures.room in
      let more = c.upset.ensures.room in
      record { spare = omega (arith, many, same, few, first.spare, more.spare); few = omega (arith, many, same, few, first.few, more.few) };
}

pub returns-else-corrected : goal.returns-else-corrected
returns-else-corrected g c =
    let q = c.args.q in
    let x = c.args.tick in
    let there = part_there c.args.self.now q c.index_mut.result.now c.requires.port c.index_mut.ensures.value in
    let many = peers_there c.args.self.now.ports.items q c.index_mut.result.now there in
    let room = c.take-corrected.ensures.room in
    record {
      row = All_passed c.take-corrected.new.self q c.steers-steer.result c.in_charge-charge.result c.args.from c.args.m.now
          (λ past w. (sym (c.steers-steer.ensures x past w), sym (c.in_charge-charge.ensures x past w))) there refl
          (λ past t. sym (rw c.requires.is at (c.take-corrected.ensures.corrects past t)) ∙ c.if-corrected.false)
          (rw (c.port_at-port.ensures, c.requires.is) at c.take-corrected.ensures.row);
      ports = ports_set c.args.self.now.ports.items q c.index_mut.result.now c.take-corrected.new.self there c.take-corrected.ensures.peers;
      clock = c.take-corrected.ensures.clock;
      room = record { spare = omega (arith, many, room.spare); few = omega (arith, many, room.few) };
    }

pub take-corrected-requires : goal.take-corrected-requires
take-corrected-requires g c =
    let there = part_there c.args.self.now c.args.q c.index_mut.result.now c.requires.port c.index_mut.ensures.value in
    let many = peers_there c.args.self.now.ports.items c.args.q c.index_mut.result.now there in
    record { room = omega (arith, many, c.requires.room); tick = c.requires.tick.0; later = c.requires.tick.1 }

pub upset-requires : goal.upset-requires
upset-requires g c =
    let there = part_there c.args.self.now c.args.q c.index_mut.result.now c.requires.port c.index_mut.ensures.value in
    let many = peers_there c.args.self.now.ports.items c.args.q c.index_mut.result.now there in
    let same = ap length (ports_set c.args.self.now.ports.items c.args.q c.index_mut.result.now c.take-corrected.new.self there c.take-corrected.ensures.peers)
    in
    record { room = omega (arith, many, same, ports_few c.args.self.now, c.take-corrected.ensures.room.spare, c.requires.room) }

pub steers-steer-requires : goal.steers-steer-requires
steers-steer-requires g c = c.requires.port

pub in_charge-charge-requires : goal.in_charge-charge-requires
in_charge-charge-requires g c = c.requires.port

pub invariant_of-self : goal.invariant_of-self
invariant_of-self g c = record { some = c.args.self.now.some; few = c.args.self.now.few; memory = c.args.self.now.memory }
