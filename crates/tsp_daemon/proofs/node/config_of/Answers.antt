-- One port more.
use Rattle.std.proofs.Common.{◌≡◌, ◌∙◌, ◌+◌, ◌∷◌, [], ◌++◌, ap, arith, drop, length}
use Rattle.tsp_gateway.specs.GateConfigs.{GateConfigValue}
use Rattle.tsp_daemon.{proofs.NodeLemmas.peers_more, proofs.NodeLemmas.setups_more, specs.Nodes.numbered_setup, specs.Nodes.setups_from}
use Rattle.tsp_daemon.proofs.node.config_of.Goals as goal

pub overflow_cast-count : goal.overflow_cast-count
overflow_cast-count c = let few = peers_more c.loop-port.done c.args.words.now.ports c.loop-port.port c.get.result.now c.get.ensures c.loop-port.invariant.few
    in omega (arith, few)

pub join-requires : goal.join-requires
join-requires c = let few = peers_more c.loop-port.done c.args.words.now.ports c.loop-port.port c.get.result.now c.get.ensures c.loop-port.invariant.few in
    omega (arith, few)

pub overflow_add-done : goal.overflow_add-done
overflow_add-done c = let few = peers_more c.loop-port.done c.args.words.now.ports c.loop-port.port c.get.result.now c.get.ensures c.loop-port.invariant.few in
    omega (arith, few)

pub loop-port-preserved : goal.loop-port-preserved
loop-port-preserved c =
    let ports = c.args.words.now.ports in
    let peers = c.get.result.now in
    let before = c.loop-port.config.ports in
    let is : c.join.new.config ≡ record c.loop-port.config { ports = before ++ numbered_setup c.loop-port.done (length peers) ∷ [] } = c.in_ok-join.ensures in
    record {
      name = ap (λ (v : GateConfigValue). v.name) is ∙ c.loop-port.invariant.name;
      may = ap (λ (v : GateConfigValue). v.may) is ∙ c.loop-port.invariant.may;
      strict = ap (λ (v : GateConfigValue). v.strict) is ∙ c.loop-port.invariant.strict;
      ports = ap (λ (v : GateConfigValue). v.ports ++ setups_from (c.loop-port.done + length peers) (drop (c.loop-port.port + 1) ports)) is
          ∙ setups_more before c.loop-port.done ports c.loop-port.port peers c.get.ensures
          ∙ c.loop-port.invariant.ports;
      few = peers_more c.loop-port.done ports c.loop-port.port peers c.get.ensures c.loop-port.invariant.few;
    }
