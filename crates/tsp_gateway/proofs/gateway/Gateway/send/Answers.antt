-- What the port does is what the node does.
use Rattle.std.proofs.Common.{refl, arith}
use Rattle.tsp_gateway.proofs.LiftLemmas.{part_there, still_by}
use Rattle.tsp_gateway.proofs.gateway.Gateway.send.Goals as goal
use Rattle.tsp_gateway.proofs.{TurnLemmas.All_sent, AnyLemmas.peers_there, AnyLemmas.ports_set}
use Rattle.tsp_rules.{proofs.BuiltSends.built_due_sends, proofs.EmitsBuilt.emits_built, specs.SendRows.due_sends}

pub returns : goal.returns
returns g c =
    let there = part_there c.args.self.now c.args.q c.index_mut.result.now c.requires.port c.index_mut.ensures.value in
    let many = peers_there c.args.self.now.ports.items c.args.q c.index_mut.result.now there in
    let room = c.sends.ensures.room in
    record {
      row = All_sent c.sends.new.self due_sends (emits_built refl built_due_sends)
          (λ y past. still_by (emits_built refl built_due_sends) y past) there refl refl (rw c.port_at.ensures at (c.sends.ensures.row c.args.self.now.clock));
      ports = ports_set c.args.self.now.ports.items c.args.q c.index_mut.result.now c.sends.new.self there c.sends.ensures.peers;
      clock = refl;
      room = record { spare = omega (arith, many, room.spare); few = omega (arith, many, room.few) };
    }

pub sends-requires-clause-room : goal.sends-requires-clause-room
sends-requires-clause-room g c = let many = peers_there c.args.self.now.ports.items c.args.q c.index_mut.result.now
    (part_there c.args.self.now c.args.q c.index_mut.result.now c.requires.port c.index_mut.ensures.value) in omega (arith, many, c.requires.room)

pub invariant_of-self : goal.invariant_of-self
invariant_of-self g c = record { some = c.args.self.now.some; few = c.args.self.now.few; memory = c.args.self.now.memory }
