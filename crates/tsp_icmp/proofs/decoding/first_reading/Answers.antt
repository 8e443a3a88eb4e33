use Rattle.std.proofs.Common.{◌≡◌, arith, sym, ◌∙◌}
use Rattle.tsp_icmp.specs.Spelling.{type_of, octet}
use Rattle.tsp_icmp.proofs.{Octets.read_is, decoding.first_reading.Goals.in-13, decoding.first_reading.Goals.in-14}
use Rattle.tsp_icmp.proofs.decoding.first_reading.Goals as goal

pub returns : goal.returns
returns c =
    let kind : octet c.args.octets.now 0 ≡ type_of c.match-octets.reply = elim c.match-octets.branch [
      | in-13 w ↦ rw w.reply-is w.in-13.is
      | in-14 w ↦
          rw w.reply-is w.in-14.is
    ] in (
      record { ident = omega arith; seq = omega arith; originate = omega arith; receive = omega arith; transmit = omega arith },
      read_is c.args.octets.now _ c.if-octets-ne-SIZE.false (λ k. omega (arith, (c.type_inv.octets k).fits)) kind c.if-octets-ne0.false
          (sym c.u16_at.ensures ∙ c.if-u16_at-right_checksum.false ∙ c.right_checksum.ensures)
          c.u16_at-2.ensures c.u16_at-3.ensures c.u32_at.ensures c.u32_at-2.ensures c.u32_at-3.ensures,
    )
