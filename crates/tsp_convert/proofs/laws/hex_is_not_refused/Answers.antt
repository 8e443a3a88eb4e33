use Rattle.tsp_convert.proofs.Conversions.{IsHexLineOf_not_refused}
use Rattle.tsp_convert.proofs.laws.hex_is_not_refused.Goals as goal

pub returns : goal.returns
returns c = IsHexLineOf_not_refused
