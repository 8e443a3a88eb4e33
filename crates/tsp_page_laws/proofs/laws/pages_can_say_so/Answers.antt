use Rattle.tsp_page_laws.proofs.PageProof.{half_says, glance_says}
use Rattle.tsp_page_laws.proofs.laws.pages_can_say_so.Goals as goal

pub returns-clause-clock : goal.returns-clause-clock
returns-clause-clock c = half_says

pub returns-clause-look : goal.returns-clause-look
returns-clause-look c = glance_says
