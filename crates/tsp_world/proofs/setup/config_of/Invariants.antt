-- The ports so far, and those that are left.
use Rattle.std.proofs.Common.{◌≡◌, ◌++◌, drop}
use Rattle.tsp_run.specs.Networks.{ports_on}
use Rattle.tsp_world.proofs.setup.config_of.Given as goal

abbrev pub invariant-loop-net : goal.invariant-loop-net
invariant-loop-net l = record {
  name : l.config.name ≡ l.line.name;
  may : l.config.may ≡ l.line.may;
  strict : l.config.strict ≡ l.strict;
  ports : l.config.ports ++ ports_on l.number (drop l.net-index l.nets) ≡ ports_on l.number l.nets;
}
