-- What the port does is what the node does.
use Rattle.std.proofs.Common.{◌≡◌, [], true, false, Bool, if◌then◌else◌, ◌∷◌, refl}
use Rattle.tsp_base.specs.Words.{either_by, nothing, placed, puts}
use Rattle.tsp_rules.{specs.NodeRows.abandons_on, specs.NodeRows.on, specs.Values.Abandon, specs.Values.Port, proofs.EmitsBuilt.emits_built}
use Rattle.tsp_rules.{specs.RoundRows.abandons, specs.RoundRows.abandons_going, proofs.BuiltRounds.built_abandons_going}
use Rattle.tsp_gateway.proofs.LiftLemmas.{All_here, All_same, part_there}
use Rattle.tsp_gateway.proofs.gateway.Gateway.abandon.Goals as goal
use Rattle.tsp_gateway.{specs.GatewayStands.port_at, proofs.AnyLemmas.ports_set}

placed-where : (q : Port) (b : Bool) → placed q (if b then Abandon ∷ [] else []) ≡ (if b then record { port = q; act = Abandon } ∷ [] else [])
placed-where q true = refl
placed-where q false = refl

pub returns-clause-row : goal.returns-clause-row
unfolding abandons_on on abandons_going either_by abandons puts nothing
returns-clause-row g c x =
    let there = part_there c.args.self.now c.args.r c.index_mut.result.now c.requires.port c.index_mut.ensures.value in
    All_same (abandons_on (port_at c.args.r)) (λ past h. placed-where (port_at c.args.r) _)
    (All_here c.abandon.new.self (emits_built refl built_abandons_going) there refl refl
    (rw c.port_at.ensures at (c.abandon.ensures.row x c.args.self.now.clock)))

pub returns-clause-ports : goal.returns-clause-ports
returns-clause-ports g c = ports_set c.args.self.now.ports.items c.args.r c.index_mut.result.now c.abandon.new.self
    (part_there c.args.self.now c.args.r c.index_mut.result.now c.requires.port c.index_mut.ensures.value) c.abandon.ensures.peers

pub invariant_of-self : goal.invariant_of-self
invariant_of-self g c = record { some = c.args.self.now.some; few = c.args.self.now.few; memory = c.args.self.now.memory }
