use Rattle.std.proofs.Common.{◌∙◌}
use Rattle.tsp_script.proofs.Outcomes.{ok_once}
use Rattle.tsp_script.proofs.act_laws.one_line_one_act.Goals as goal

pub returns : goal.returns
returns c =
    let text = c.as_slice.ensures.value ∙ c.act_text-text.ensures in
    ok_once c.act_of-read.result _ _ (c.act_of-read.ensures.one c.args.one.now (c.line_in_range.ensures, text))
    (c.act_of-read.ensures.one c.args.other.now (c.line_in_range-2.ensures, text ∙ c.requires.same))
