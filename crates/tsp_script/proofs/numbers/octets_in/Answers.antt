use Rattle.std.proofs.Common.{◌≡◌, ℕ, ◌*◌, ◌+◌, ◌/◌, length, take, slice_index_or, Ok, subst, arith}
use Rattle.hex.{proofs.Pairs.decode_start, proofs.Pairs.decode_step, specs.Hex.decode_of}
use Rattle.tsp_script.proofs.HexDigits.{value_read, pair_read, refused_high, refused_low, decoded}
use Rattle.tsp_script.proofs.numbers.octets_in.Goals as goal

pub loop-place-init : goal.loop-place-init
loop-place-init c = decode_start c.args.line.now c.args.buffer.now

pub returns-then-high-gt15-clause-none : goal.returns-then-high-gt15-clause-none
returns-then-high-gt15-clause-none c = refused_high c.args.line.now c.loop-place.buffer c.loop-place.place c.value_of-high.result (omega arith) (omega arith)
    c.value_of-high.ensures (omega arith) c.loop-place.invariant

pub returns-then-low-gt15-clause-none : goal.returns-then-low-gt15-clause-none
returns-then-low-gt15-clause-none c =
    refused_low c.args.line.now c.loop-place.buffer c.loop-place.place c.value_of-high.result c.value_of-low.result (omega arith) (omega arith)
    c.value_of-high.ensures (omega arith) c.value_of-low.ensures (omega arith) c.loop-place.invariant

pub loop-place-preserved : goal.loop-place-preserved
loop-place-preserved c =
    let line = c.args.line.now in
    let place = c.loop-place.place in
    let first : ℕ = slice_index_or line (2 * place) 0 in
    let second : ℕ = slice_index_or line (2 * place + 1) 0 in
    let high = value_read first c.value_of-high.result c.value_of-high.ensures (omega arith) in
    let low = value_read second c.value_of-low.result c.value_of-low.ensures (omega arith) in
    decode_step line c.loop-place.buffer place (c.value_of-high.result * 16 + c.value_of-low.result) (omega arith) (omega arith)
    (pair_read first second (2 * place) c.value_of-high.result c.value_of-low.result high low) c.loop-place.invariant

pub returns-clause-found : goal.returns-clause-found
returns-clause-found c =
    let line = c.args.line.now in
    let whole : c.loop-place.place ≡ length line / 2 = omega arith in (
      omega arith,
      subst (λ (n : ℕ). decode_of line ≡ Ok (take n c.loop-place.buffer)) whole (decoded line c.loop-place.buffer c.loop-place.place (omega arith)
          (omega arith) c.loop-place.invariant),
    )
