use Rattle.std.proofs.Common.{◌∙◌, ap, arith, length, sym, subst}
use Rattle.tsp_gateway.specs.GateConfigs.{AreGatePorts, GateConfigValue, peers_of_ports}
use Rattle.tsp_daemon.proofs.NodeLemmas.{ArePorts_setups_from, length_setups_from, room_is}
use Rattle.tsp_daemon.proofs.node.boot.Goals as goal

pub unreachable-requires : goal.unreachable-requires
unreachable-requires c =
    let ports : AreGatePorts c.in-Ok.config.ports = subst (λ (v : GateConfigValue). AreGatePorts v.ports) (sym c.in-Ok.ensures)
    (ArePorts_setups_from 0 c.args.words.now.ports c.requires.serve.ports.one.few) in
    (rw c.in-Err-Peers.field-0-is at c.in-Err-Peers.ensures.err) ports

pub boot-requires-clause-ports : goal.boot-requires-clause-ports
boot-requires-clause-ports c =
    let same = ap (λ (v : GateConfigValue). length v.ports) c.in-Ok.ensures ∙ length_setups_from 0 c.args.words.now.ports in
    let some = c.requires.serve.ports.peers.some in
    omega (arith, same, some)

pub returns-in-Ok-boot-clause-room : goal.returns-in-Ok-boot-clause-room
returns-in-Ok-boot-clause-room c =
    room_is c.args.words.now _ (c.in-Ok-boot.ensures.ok.2 ∙ ap (λ (v : GateConfigValue). peers_of_ports v.ports) c.in-Ok.ensures) c.requires.serve.ports.one.few
    c.requires.serve.ports.one.four
