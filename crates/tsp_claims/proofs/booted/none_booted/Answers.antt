-- No node is up.
use Rattle.std.proofs.Common.{◌∙◌, ap}
use Rattle.tsp_claims.{proofs.StandLemmas.none_up, specs.Listed.up_in}
use Rattle.tsp_claims.proofs.booted.none_booted.Goals as goal

pub returns-clause-none : goal.returns-clause-none
returns-clause-none c = ap (λ ups. up_in ups) c.loop.invariant.none ∙ none_up c.loop.counter
