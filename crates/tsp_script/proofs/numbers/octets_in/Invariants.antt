use Rattle.std.proofs.Common.{◌≡◌, ◌*◌, take, drop}
use Rattle.hex.{proofs.Pairs.prepend, specs.Hex.decode_pairs}
use Rattle.tsp_script.proofs.numbers.octets_in.Given as goal

abbrev pub invariant-loop-place : goal.invariant-loop-place
invariant-loop-place l = decode_pairs 0 l.line ≡ prepend (take l.place l.buffer) (decode_pairs (2 * l.place) (drop (2 * l.place) l.line))
