use Rattle.tsp_icmp_command.proofs.RecordLemmas.{IsExchange_one}
use Rattle.tsp_icmp_command.proofs.laws.one_exchange_of_a_line.Goals as goal

pub returns : goal.returns
returns c = IsExchange_one
