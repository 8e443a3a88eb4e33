use Rattle.std.proofs.Common.{arith, ◌∙◌}
use Rattle.std.{proofs.lemmas.Int.ints, proofs.lemmas.Int.to_z-of_z, specs.Int.w64}
use Rattle.tsp_codec.proofs.OneReading.{IsFault_Reserved_reply, IsFault_Time_reply}
use Rattle.tsp_codec.proofs.decoding.reply_of.Goals as goal

pub returns-then-ticket-gt-LAST_TICKET : goal.returns-then-ticket-gt-LAST_TICKET
returns-then-ticket-gt-LAST_TICKET c = IsFault_Reserved_reply c.args.octets.now c.requires (omega (
  arith,
  c.u16_at-ticket.ensures,
  c.if-ticket-gt-LAST_TICKET.true,
))

pub returns-in-None : goal.returns-in-None
returns-in-None c = IsFault_Time_reply c.args.octets.now _ _ c.requires c.u16_at-ticket.ensures
    (to_z-of_z w64 c.i64_at.result (omega (arith, ints, c.i64_at.type_inv)) ∙ c.i64_at.ensures)
    (omega (arith, c.if-ticket-gt-LAST_TICKET.false)) (λ r. let e = c.in-None.ensures.variant.1 r in cc)
