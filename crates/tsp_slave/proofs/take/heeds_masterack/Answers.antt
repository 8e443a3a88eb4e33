-- By cases of the role.
use Rattle.std.proofs.Common.{sym, ◌∙◌, ap}
use Rattle.tsp_base.specs.Words.{nothing, reading}
use Rattle.tsp_rules.{proofs.RowsOther.masterack_in_other, specs.SlaveRows.masterack_in}
use Rattle.tsp_slave.proofs.RowCases.{masterack_in_Loose, masterack_in_Follow}
use Rattle.tsp_slave.proofs.take.heeds_masterack.Goals as goal

pub returns-in-Loose : goal.returns-in-Loose
returns-in-Loose c x past s =
    masterack_in_Loose c.args.from _ x past (sym s.role ∙ c.in-Loose.is) (let a = s.alarms in let i = c.is_some.ensures in let t = c.at.ensures in cc)

pub returns-in-Follow : goal.returns-in-Follow
returns-in-Follow c x past s = masterack_in_Follow c.args.from c.in-Follow.q _ x past (sym s.role ∙ c.in-Follow.is) cc

pub returns-in_default : goal.returns-in_default
unfolding reading nothing
returns-in_default c x past s =
    ap (λ r. masterack_in c.args.from r x past) (sym s.role) ∙ ap (λ row. row x past) (masterack_in_other c.args.from _ c.in_default.not-Loose
    c.in_default.not-Follow)
