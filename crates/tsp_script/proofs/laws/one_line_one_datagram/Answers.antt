use Rattle.std.proofs.Common.{◌∙◌}
use Rattle.tsp_script.proofs.Outcomes.{ok_once}
use Rattle.tsp_script.proofs.laws.one_line_one_datagram.Goals as goal

pub returns : goal.returns
returns c =
    let text = c.as_slice.ensures.value ∙ c.message_text-line.ensures.text in
    ok_once c.message_of-read.result _ _ (c.message_of-read.ensures.one c.args.one.now c.message_text-line.ensures.range text)
    (c.message_of-read.ensures.one c.args.other.now c.message_text-same.ensures.range (text ∙ c.requires))
