use Rattle.std.proofs.Common.{◌≡◌, ◌+◌, ◌∷◌, pos, length, take, map}
use Rattle.tsp_icmp_command.specs.Bests.{micros_of}
use Rattle.tsp_icmp_command.proofs.tally.group_in.Given as goal

-- the own clock and those so far
abbrev pub invariant-loop-best : goal.invariant-loop-best
invariant-loop-best l = record {
  items : l.values.items ≡ pos 0 ∷ map micros_of (take l.best-index l.bests);
  room : l.values.room ≡ length l.bests + 1;
}
