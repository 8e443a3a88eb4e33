use Rattle.std.proofs.Common.{nat_eq, take}
use Rattle.std.specs.HashMap.{get}
use Rattle.tsp_io.specs.Directories.{AreNumbers}
use Rattle.tsp_io.proofs.directory.numbers_of.Given as goal

abbrev pub invariant-loop-at : goal.invariant-loop-at
invariant-loop-at l = AreNumbers (take l.at l.peers) (get nat_eq l.numbers)
