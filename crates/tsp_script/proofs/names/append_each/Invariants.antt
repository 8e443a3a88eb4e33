use Rattle.std.proofs.Common.{◌≡◌, ◌++◌, ◌+◌, ◌*◌, ◌≤◌, length, take, flat_map}
use Rattle.tsp_script.specs.Texts.{escaped}
use Rattle.tsp_script.proofs.names.append_each.Given as goal

abbrev pub invariant-loop-octet : goal.invariant-loop-octet
invariant-loop-octet l = (l.out.items ≡ l.fn.out.items ++ flat_map escaped (take l.octet-index l.octets)) ×
    (length l.out.items ≤ length l.fn.out.items + 3 * l.octet-index)
