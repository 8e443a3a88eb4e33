use Rattle.tsp_script.specs.Texts.{message_text}
use Rattle.tsp_convert.{proofs.Conversions.Converts_one, proofs.Conversions.IsHexLineOf_one, specs.Shows.IsHexLineOf}
use Rattle.tsp_convert.proofs.laws.one_output_of_show.Goals as goal

pub returns : goal.returns
returns c = Converts_one IsHexLineOf message_text IsHexLineOf_one
