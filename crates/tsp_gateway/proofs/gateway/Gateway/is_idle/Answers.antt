-- The port's own answer.
use Rattle.std.proofs.Common.{subst, ◌≡◌, ℕ, not, Option}
use Rattle.tsp_rules.specs.Guards.{is_over}
use Rattle.tsp_node.specs.{Dues.IsPartDue, declared.part.Part.Part}
use Rattle.tsp_gateway.proofs.{LiftLemmas.part_there, AnyLemmas.one_part}
use Rattle.tsp_gateway.proofs.gateway.Gateway.is_idle.Goals as goal

pub returns : goal.returns
returns c part is =
    let same : c.index.result.now ≡ part = one_part c.args.self.now.ports.items c.args.q _ part (part_there c.args.self.now c.args.q c.index.result.now
    c.requires c.index.ensures) is in
    subst (λ (p : Part). (due : Option ℕ) × IsPartDue p due × (c.rests.result ≡ not (is_over due c.args.tick))) same c.rests.ensures
