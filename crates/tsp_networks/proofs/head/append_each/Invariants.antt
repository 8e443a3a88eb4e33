-- The octets so far, and those that are left.
use Rattle.std.proofs.Common.{◌≡◌, ◌+◌, ◌++◌, drop, vec_len, vec_capacity}
use Rattle.tsp_networks.proofs.head.append_each.Given as goal

abbrev pub invariant-loop-octet : goal.invariant-loop-octet
invariant-loop-octet l = record {
  items : l.names.items ++ drop l.octet-index l.octets ≡ l.initial.names.items ++ l.octets;
  len : vec_len l.names ≡ vec_len l.initial.names + l.octet-index;
  capacity : vec_capacity l.initial.names ≡ vec_capacity l.names;
}
