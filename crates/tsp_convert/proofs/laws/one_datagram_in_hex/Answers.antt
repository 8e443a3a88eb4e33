use Rattle.tsp_convert.proofs.Conversions.{IsHexLineOf_one}
use Rattle.tsp_convert.proofs.laws.one_datagram_in_hex.Goals as goal

pub returns : goal.returns
returns c = IsHexLineOf_one
