use Rattle.tsp_script.proofs.{NameTexts.decoded_pair, Outcomes.err_or_ok}
use Rattle.tsp_script.proofs.names.octet_of.Goals as goal

pub returns-in-Ok-clause-reads : goal.returns-in-Ok-clause-reads
returns-in-Ok-clause-reads c = λ x h e.
    let d = decoded_pair _ c.decode_to_slice.new.out x _ h e c.decode_to_slice.ensures.value in
    rw d.1

pub returns-in_default-clause-reads : goal.returns-in_default-clause-reads
returns-in_default-clause-reads c = λ x h e.
    let d = decoded_pair _ c.decode_to_slice.new.out x _ h e c.decode_to_slice.ensures.value in
    absurd (c.if-is_pair_of.ensures (rw d.1 e))

pub returns-in_default-2-clause-reads : goal.returns-in_default-2-clause-reads
returns-in_default-2-clause-reads c = λ x h e.
    let d = decoded_pair _ c.decode_to_slice.new.out x _ h e c.decode_to_slice.ensures.value in
    absurd (err_or_ok _ _ _ c.in_default.is d.0)
