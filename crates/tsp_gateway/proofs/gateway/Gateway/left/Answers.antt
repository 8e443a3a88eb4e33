-- The clock is the past's.
use Rattle.std.proofs.Common.{◌≡◌, ◌∙◌, of_z, rules, to_z, w64}
use Rattle.tsp_gateway.proofs.ReadingLemmas.{rest_there}
use Rattle.tsp_gateway.proofs.gateway.Gateway.left.Goals as goal

pub returns-clause-past : goal.returns-clause-past
returns-clause-past c past h =
    let same : to_z w64 (of_z w64 c.left.result) ≡ c.left.result = search rules in
    same ∙ c.left.ensures.value ∙ rest_there past c.args.self.now h
