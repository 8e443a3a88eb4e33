-- The rooms so far.
use Rattle.std.proofs.Common.{◌≡◌, vec_len}
use Rattle.tsp_networks.specs.Rooms.{AreRooms}
use Rattle.tsp_networks.proofs.rooms_of.Given as goal

abbrev pub invariant-loop-node : goal.invariant-loop-node
invariant-loop-node l = record { are : AreRooms l.nets l.rooms.items; len : vec_len l.rooms ≡ l.node }
