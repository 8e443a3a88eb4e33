-- So many nodes, none of which is up.
use Rattle.std.proofs.Common.{◌≡◌, replicate, false, vec_len}
use Rattle.tsp_claims.proofs.booted.none_booted.Given as goal

abbrev pub invariant-loop : goal.invariant-loop
invariant-loop l = record { none : l.up.items ≡ replicate l.counter false; len : vec_len l.up ≡ l.counter }
