-- What the nodes so far are set up with.
use Rattle.std.proofs.Common.{◌≡◌}
use Rattle.tsp_world.specs.Configs.{configs_below}
use Rattle.tsp_world.proofs.setup.configs_of.Given as goal

abbrev pub invariant-loop-number : goal.invariant-loop-number
invariant-loop-number l = l.configs.items ≡ configs_below l.header l.number
