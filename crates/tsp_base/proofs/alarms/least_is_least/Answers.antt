use Rattle.std.proofs.Common.{sym, ◌∙◌}
use Rattle.tsp_base.proofs.AlarmLemmas.{least_deadline_armed, none_later}
use Rattle.tsp_base.proofs.alarms.least_is_least.Goals as goal

pub returns-clause-armed : goal.returns-clause-armed
returns-clause-armed c = λ d t h. let armed = least_deadline_armed d in (armed.0, sym armed.1 ∙ h)

pub returns-clause-first : goal.returns-clause-first
returns-clause-first c = none_later
