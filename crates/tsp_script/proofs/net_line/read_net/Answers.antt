use Rattle.std.proofs.Common.{◌≤◌, length, refl, rules}
use Rattle.tsp_script.proofs.NetLines.{net_made}
use Rattle.tsp_script.proofs.net_line.read_net.Goals as goal

pub returns-clause-range : goal.returns-clause-range
returns-clause-range c =
    let some : 1 ≤ length c.in_ok-numbers.numbers.items = search rules in
    let few : length c.in_ok-numbers.numbers.items ≤ 64 = rw c.as_slice.ensures.value at c.as_slice.ensures.fits in
    let value = c.as_slice.ensures.value in
    net_made c.of.result c.as_slice-2.result.now c.of.ensures.value (rw c.as_slice-2.ensures.value (record {
      some = some;
      few = few;
      ascending = rw value at (c.if-not-is_ascending.ensures.0 refl);
      small = c.in_ok-numbers.ensures.small;
    }))
