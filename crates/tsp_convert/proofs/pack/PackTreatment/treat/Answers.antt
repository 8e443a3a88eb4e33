use Rattle.std.specs.Prelude.{⊤}
use Rattle.hex.specs.Hex.{encode_lower}
use Rattle.tsp_codec.specs.Canon.{canon}
use Rattle.tsp_convert.specs.Packs.{IsLineOf, pack_meaning}
use Rattle.tsp_convert.proofs.Conversions.{Converts_more, Goes_or_StopsAt}
use Rattle.tsp_convert.proofs.pack.PackTreatment.treat.Goals as goal

pub returns-in-Ok-clause-treats : goal.returns-in-Ok-clause-treats
returns-in-Ok-clause-treats g c = λ lines text s a room.
    let h = c.hand_over.ensures in
    let more = Converts_more IsLineOf (λ d. encode_lower (canon d)) lines text c.args.line.now _ c.in-Ok.ensures.1.0 a c.in-Ok.ensures.1.1 c.in-Ok.ensures.1.2
    in
    Goes_or_StopsAt pack_meaning (λ _. ⊤) lines text c.args.line.now _ _ _ _ _ c.hand_over.result h.ok h.err h.stop more tt
