use Rattle.tsp_page_laws.proofs.NearProof.{page_above, page_near}
use Rattle.tsp_page_laws.proofs.laws.pages_show_clocks.Goals as goal

pub returns-clause-above : goal.returns-clause-above
returns-clause-above c = page_above

pub returns-clause-near : goal.returns-clause-near
returns-clause-near c = page_near
