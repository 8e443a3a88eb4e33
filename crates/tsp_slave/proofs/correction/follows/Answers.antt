-- By cases of the role.
use Rattle.std.proofs.Common.{sym, ◌∙◌, ap}
use Rattle.tsp_base.specs.Words.{nothing, reading}
use Rattle.tsp_rules.{proofs.RowsOther.from_master_other, specs.SlaveRows.from_master}
use Rattle.tsp_slave.proofs.RowCases.{from_master_Follow}
use Rattle.tsp_slave.proofs.correction.follows.Goals as goal

pub returns-in-Follow : goal.returns-in-Follow
returns-in-Follow c row x past s = from_master_Follow c.args.from c.in-Follow.q row _ x past (sym s.role ∙ c.in-Follow.is) cc

pub returns-in_default : goal.returns-in_default
unfolding reading nothing
returns-in_default c row x past s =
    ap (λ r. from_master c.args.from row r x past) (sym s.role) ∙ ap (λ r. r x past) (from_master_other c.args.from row _ c.in_default.not-Follow)
