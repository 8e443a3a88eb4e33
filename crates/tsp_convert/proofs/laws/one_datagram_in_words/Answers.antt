use Rattle.tsp_convert.proofs.LinesApart.{IsLineOf_one}
use Rattle.tsp_convert.proofs.laws.one_datagram_in_words.Goals as goal

pub returns : goal.returns
returns c = IsLineOf_one
