use Rattle.std.proofs.Common.{◌-◌, slice_index_or, arith}
use Rattle.tsp_script.proofs.Digits.{high_word, high_word_bounds, digits_word, values_word, eight_read}
use Rattle.tsp_script.proofs.eights.eight_digits.Goals as goal

pub overflow_add-word : goal.overflow_add-word
overflow_add-word c =
    let high = high_word c.args.octets.now c.word_of-word.result c.type_inv.octets c.word_of-word.ensures c.if-word-ne-ZEROS.false in
    record { fits = omega (arith, (high_word_bounds c.args.octets.now c.word_of-word.result c.word_of-word.ensures high).1) }

pub joined-requires : goal.joined-requires
joined-requires c =
    let high = high_word c.args.octets.now c.word_of-word.result c.type_inv.octets c.word_of-word.ensures c.if-word-ne-ZEROS.false in
    let digits = digits_word c.args.octets.now c.word_of-word.result c.type_inv.octets c.word_of-word.ensures high c.if-word-ne-ZEROS-2.false in
    (values_word c.args.octets.now c.word_of-word.result c.word_of-word.ensures digits).0

pub returns : goal.returns
returns c =
    let ds = c.args.octets.now in
    let high = high_word ds c.word_of-word.result c.type_inv.octets c.word_of-word.ensures c.if-word-ne-ZEROS.false in
    let digits = digits_word ds c.word_of-word.result c.type_inv.octets c.word_of-word.ensures high c.if-word-ne-ZEROS-2.false in
    let joined = c.joined.ensures (slice_index_or ds 0 0 - 48) (slice_index_or ds 1 0 - 48) (slice_index_or ds 2 0 - 48) (slice_index_or ds 3 0 - 48)
    (slice_index_or ds 4 0 - 48) (slice_index_or ds 5 0 - 48) (slice_index_or ds 6 0 - 48) (slice_index_or ds 7 0 - 48)
    (omega (arith, digits.0.0.1)) (omega (arith, digits.0.1.1)) (omega (arith, digits.0.2.1)) (omega (arith, digits.0.3.1)) (omega (arith, digits.1.0.1))
    (omega (arith, digits.1.1.1)) (omega (arith, digits.1.2.1)) (omega (arith, digits.1.3.1)) (values_word ds c.word_of-word.result c.word_of-word.ensures
    digits).1 in
    eight_read ds c.joined.result c.requires digits joined
