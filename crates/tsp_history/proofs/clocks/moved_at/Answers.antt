use Rattle.std.proofs.Common.{◌≡◌, length, rules, sym, subst, to_z, of_z}
use Rattle.std.specs.Int.{w128}
use Rattle.tsp_history.{proofs.NoteLemmas.length_history, specs.Clocks.IsSumOf}
use Rattle.tsp_history.proofs.clocks.moved_at.Goals as goal

pub returns-clause-bounded : goal.returns-clause-bounded
returns-clause-bounded c =
    let same : to_z w128 (of_z w128 c.node_at.result.clock.moved) ≡ c.node_at.result.clock.moved = search rules in
    subst (λ z. IsSumOf (length c.args.lines.now) z) (sym same) (subst (λ k. IsSumOf k c.node_at.result.clock.moved) (length_history c.args.lines.now)
    c.node_at.ensures.small)
