-- A client's date, by the role.
use Rattle.std.proofs.Common.{refl}
use Rattle.tsp_rules.specs.DateRows.{date_in}
use Rattle.tsp_date.proofs.TaskLemmas.{date_ignored}
use Rattle.tsp_date.proofs.task.client_task.Goals as goal

pub returns-in-Follow-clause-row : goal.returns-in-Follow-clause-row
unfolding date_in
returns-in-Follow-clause-row c from m = rw c.in-Follow.is refl

pub returns-in-Master-clause-row : goal.returns-in-Master-clause-row
unfolding date_in
returns-in-Master-clause-row c from m = rw c.in-Master.is refl

pub returns-in_default : goal.returns-in_default
returns-in_default c = record {
  row = λ from m. date_ignored from m c.args.role c.in_default.not-Follow c.in_default.not-Master;
  follows = λ q e. let bad : ⊥ = cc in absurd bad;
}
