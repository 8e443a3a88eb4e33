use Rattle.std.proofs.Common.{◌∙◌}
use Rattle.std.specs.Prelude.{⊤}
use Rattle.tsp_script.specs.Texts.{message_text}
use Rattle.tsp_convert.specs.Shows.{IsHexLineOf, show_meaning}
use Rattle.tsp_convert.proofs.Conversions.{Converts_more, Goes_or_StopsAt}
use Rattle.tsp_convert.proofs.show.ShowTreatment.treat.Goals as goal

pub returns-in-Ok-clause-treats : goal.returns-in-Ok-clause-treats
returns-in-Ok-clause-treats g c = λ lines text s a room.
    let h = c.hand_over.ensures in
    let more = Converts_more IsHexLineOf message_text lines text c.args.line.now _ c.in-Ok.ensures.0 a c.in-Ok.ensures.1 (c.as_slice.ensures.value ∙
    c.in-Ok.ensures.2) in
    Goes_or_StopsAt show_meaning (λ _. ⊤) lines text c.args.line.now c.as_slice.result.now _ _ _ _ c.hand_over.result h.ok h.err h.stop more tt
