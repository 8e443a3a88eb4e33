-- The clock is the past's.
use Rattle.std.proofs.Common.{◌≡◌, ◌∙◌, of_z, rules, to_z, w64}
use Rattle.tsp_gateway.proofs.ReadingLemmas.{target_there}
use Rattle.tsp_gateway.proofs.gateway.Gateway.target.Goals as goal

pub returns-clause-past : goal.returns-clause-past
returns-clause-past c past h =
    let same : to_z w64 (of_z w64 c.target.result) ≡ c.target.result = search rules in
    same ∙ c.target.ensures.value ∙ target_there past c.args.self.now c.args.tick h
