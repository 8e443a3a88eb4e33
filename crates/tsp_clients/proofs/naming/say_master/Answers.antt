-- A master says so, and nobody else.
use Rattle.std.proofs.Common.{◌∙◌, ap, sym}
use Rattle.tsp_base.specs.Words.{nothing, posts_back}
use Rattle.tsp_base.proofs.PerformsLemmas.{Performs_then_part, Performs_else_part, Performs_nothing}
use Rattle.tsp_rules.specs.{CommonRows.says_master, Guards.is_master, Guards.is_master_at, Values.Ack}
use Rattle.tsp_rules.proofs.RowsOther.{is_master_other}
use Rattle.tsp_clients.proofs.naming.say_master.Goals as goal

pub returns-in-Master-clause-row : goal.returns-in-Master-clause-row
unfolding says_master
returns-in-Master-clause-row g c x =
    Performs_then_part is_master_at nothing (λ past h. ap is_master (sym h.role ∙ c.in-Master.is)) (c.post_back.ensures.row x)

pub returns-in_default-clause-row : goal.returns-in_default-clause-row
unfolding says_master
returns-in_default-clause-row g c x =
    Performs_else_part is_master_at (posts_back c.args.from Ack c.args.number) (λ past h. ap is_master (sym h.role) ∙ is_master_other _ c.in_default.not-Master)
    Performs_nothing
