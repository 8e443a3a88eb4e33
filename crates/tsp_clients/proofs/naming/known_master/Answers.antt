-- Each role knows its master.
use Rattle.std.proofs.Common.{◌∙◌, sym}
use Rattle.tsp_clients.proofs.ClientLemmas.{master_name_in_other}
use Rattle.tsp_clients.proofs.naming.known_master.Goals as goal

pub returns-in_default : goal.returns-in_default
returns-in_default c = c.empty.ensures ∙ sym (master_name_in_other _ _ _ c.in_default.not-Master c.in_default.not-Follow)
