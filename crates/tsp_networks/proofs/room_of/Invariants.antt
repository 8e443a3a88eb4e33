-- The room of the ports so far, and of those that are left.
use Rattle.std.proofs.Common.{◌≡◌, ◌≤◌, ◌+◌, ◌*◌, drop}
use Rattle.tsp_run.specs.Networks.{ports_on, room}
use Rattle.tsp_networks.proofs.room_of.Given as goal

abbrev pub invariant-loop-net : goal.invariant-loop-net
invariant-loop-net l = record {
  left : l.room + room (ports_on l.n (drop l.net-index l.nets)) ≡ room (ports_on l.n l.nets);
  few : l.room ≤ 1792 * l.net-index;
}
