-- Nothing is claimed, and no node is up.
use Rattle.std.proofs.Common.{ap, refl}
use Rattle.tsp_claims.proofs.claims.Claims.new.Goals as goal
use Rattle.tsp_history.specs.Histories.{history_of}

pub returns-clause-stand : goal.returns-clause-stand
returns-clause-stand c = record {
  header_is = refl;
  count = refl;
  told = refl;
  history = ap (λ ns. history_of ns) c.new.ensures.lines;
  posts_are = c.new-2.ensures.items;
  up_is = c.in_ok-up.ensures.none;
}
