use Rattle.tsp_history.proofs.BriefLemmas.{one_brief_holds}
use Rattle.tsp_history.proofs.laws.one_brief.Goals as goal

pub returns : goal.returns
returns c a b n m same = one_brief_holds a b n m same
