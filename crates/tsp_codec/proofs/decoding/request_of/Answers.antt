use Rattle.std.proofs.Common.{inl, inr, ◌∙◌}
use Rattle.tsp_codec.proofs.OneReading.{IsFault_Reserved_request}
use Rattle.tsp_codec.proofs.decoding.request_of.Goals.{then-u16_at-ne0-via-then-u16_at-ne0, then-u16_at-ne0-via-else-u16_at-ne0+then-u64_at-ne0}
use Rattle.tsp_codec.proofs.decoding.request_of.Goals as goal

pub returns-then-u16_at-ne0 : goal.returns-then-u16_at-ne0
returns-then-u16_at-ne0 c = IsFault_Reserved_request c.args.octets.now c.requires (elim c.then-u16_at-ne0.branch [
  | then-u16_at-ne0-via-then-u16_at-ne0 w ↦ inl (λ e. w.if-u16_at-ne0.true (c.u16_at.ensures ∙ e))
  | then-u16_at-ne0-via-else-u16_at-ne0+then-u64_at-ne0 w ↦ inr (λ e. w.if-u64_at-ne0.true (w.u64_at.ensures ∙ e))
])
