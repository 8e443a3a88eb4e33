use Rattle.std.proofs.Common.{◌∙◌, append_assoc, rules}
use Rattle.std.{proofs.lemmas.Int.to_z-of_z, specs.Int.w64, specs.Int.RustNames.FitsSigned}
use Rattle.tsp_script.proofs.messages.append_reply.Goals as goal

pub returns-clause-text : goal.returns-clause-text
returns-clause-text c =
    let fits : FitsSigned w64 c.reading.result = search rules in
    let reading = to_z-of_z w64 c.reading.result fits ∙ c.reading.ensures in
    simp (
      c.append_next_signed.ensures.text,
      c.append_next_number-2.ensures.text,
      c.append_next_number.ensures.text,
      c.append_number.ensures.text,
      c.append.ensures,
      c.ticket.ensures.value,
      c.word.ensures,
      c.counter.ensures,
      reading,
      append_assoc,
    )
