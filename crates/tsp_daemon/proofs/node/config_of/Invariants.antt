-- The ports so far, and those that are left.
use Rattle.std.proofs.Common.{◌≡◌, ◌≤◌, ◌+◌, ◌++◌, drop, length}
use Rattle.tsp_args.specs.Ports.{all_peers}
use Rattle.tsp_daemon.specs.Nodes.{may_be, is_strict, setups_from}
use Rattle.tsp_daemon.proofs.node.config_of.Given as goal

abbrev pub invariant-loop-port : goal.invariant-loop-port
invariant-loop-port l = record {
  name : l.config.name ≡ l.words.name;
  may : l.config.may ≡ may_be l.words.candidacy;
  strict : l.config.strict ≡ is_strict l.words.candidacy;
  ports : l.config.ports ++ setups_from l.done (drop l.port l.words.ports) ≡ setups_from 0 l.words.ports;
  few : l.done + length (all_peers (drop l.port l.words.ports)) ≤ 999;
}
