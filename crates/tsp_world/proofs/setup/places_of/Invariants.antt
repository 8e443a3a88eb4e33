-- So many places, and none of them has a node.
use Rattle.std.proofs.Common.{◌≡◌, replicate, None, vec_len}
use Rattle.tsp_world.proofs.setup.places_of.Given as goal

abbrev pub invariant-loop : goal.invariant-loop
invariant-loop g l = record { none : l.places.items ≡ replicate l.counter None; len : vec_len l.places ≡ l.counter }
