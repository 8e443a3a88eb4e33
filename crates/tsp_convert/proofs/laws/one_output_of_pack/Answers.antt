use Rattle.hex.specs.Hex.{encode_lower}
use Rattle.tsp_codec.specs.Canon.{canon}
use Rattle.tsp_convert.{proofs.Conversions.Converts_one, proofs.LinesApart.IsLineOf_one, specs.Packs.IsLineOf}
use Rattle.tsp_convert.proofs.laws.one_output_of_pack.Goals as goal

pub returns : goal.returns
returns c = Converts_one IsLineOf (λ d. encode_lower (canon d)) IsLineOf_one
