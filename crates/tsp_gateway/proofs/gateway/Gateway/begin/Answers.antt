-- What the port does is what the node does.
use Rattle.std.proofs.Common.{refl}
use Rattle.tsp_gateway.proofs.{AnyLemmas.ports_set, LiftLemmas.All_here, LiftLemmas.part_there}
use Rattle.tsp_gateway.proofs.gateway.Gateway.begin.Goals as goal
use Rattle.tsp_rules.{proofs.BuiltGate.built_starts, proofs.EmitsBuilt.emits_built, specs.GateRows.boots_on}

pub returns-clause-row : goal.returns-clause-row
unfolding boots_on
returns-clause-row g c =
    let there = part_there c.args.self.now c.args.q c.index_mut.result.now c.requires.port c.index_mut.ensures.value in
    All_here c.begin.new.self (emits_built refl built_starts) there refl refl (rw c.port_at.ensures at (c.begin.ensures.row c.args.self.now.clock))

pub returns-clause-ports : goal.returns-clause-ports
returns-clause-ports g c = ports_set c.args.self.now.ports.items c.args.q c.index_mut.result.now c.begin.new.self
    (part_there c.args.self.now c.args.q c.index_mut.result.now c.requires.port c.index_mut.ensures.value) c.begin.ensures.peers

pub invariant_of-self : goal.invariant_of-self
invariant_of-self g c = record { some = c.args.self.now.some; few = c.args.self.now.few; memory = c.args.self.now.memory }
