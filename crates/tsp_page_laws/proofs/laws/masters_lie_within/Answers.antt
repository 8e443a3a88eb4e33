use Rattle.tsp_page_laws.proofs.WithinProof.{within, leads_within}
use Rattle.tsp_page_laws.proofs.laws.masters_lie_within.Goals as goal

pub returns-clause-looked : goal.returns-clause-looked
returns-clause-looked c = within

pub returns-clause-leads : goal.returns-clause-leads
returns-clause-leads c = leads_within
