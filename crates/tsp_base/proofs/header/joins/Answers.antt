use Rattle.std.proofs.Common.{refl, ◌∙◌, sym}
use Rattle.tsp_base.proofs.HeaderLemmas.{free_test}
use Rattle.tsp_base.proofs.header.joins.Goals as goal

pub returns-then-is_net : goal.returns-then-is_net
returns-then-is_net c =
    let test = free_test c.args.nets.now c.args.numbers.now in
    (λ h. record { net_is = c.if-is_net.ensures.0 refl; free = test.0 (sym c.are_free.ensures ∙ h) }, λ j. c.are_free.ensures ∙ test.1 j.free)
