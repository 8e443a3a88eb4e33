-- By the least of each half that is written.
use Rattle.tsp_daemon.proofs.PagePasts.{half_keeps}
use Rattle.tsp_daemon.proofs.laws.pages_dont_fall.Goals as goal

pub returns-clause-keeps : goal.returns-clause-keeps
returns-clause-keeps c = λ past acts x moment n tuned p h is none few sound early. half_keeps past acts x moment n tuned p h is none few sound early
