use Rattle.tsp_icmp_command.proofs.RecordLemmas.{IsExchange_not_refused}
use Rattle.tsp_icmp_command.proofs.laws.an_exchange_is_not_refused.Goals as goal

pub returns : goal.returns
returns c = IsExchange_not_refused
