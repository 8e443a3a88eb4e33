-- Each part stands for the past after the boot.
use Rattle.std.proofs.Common.{sym, ◌≡◌, w64, to_z, of_z, to_z-of_z}
use Rattle.tsp_clients.proofs.ClientLemmas.{TraceStands_boot}
use Rattle.tsp_node.proofs.node.Node.new.Goals as goal

pub new-requires : goal.new-requires
new-requires c = rw c.peers.ensures ((c.is_port.ensures.0 c.if-not-is_port.false).peers)

pub returns-clause-stands : goal.returns-clause-stands
returns-clause-stands c past h =
    let back : to_z w64 (of_z w64 c.args.wall) ≡ c.args.wall = to_z-of_z c.ranges.wall in
    let me = c.me.ensures in
    record {
      port = c.in-Ok-new.ensures.stands past c.args.wall _
          (rw (c.me.ensures, c.peers.ensures) (record {
            own = sym h.of.own;
            name = sym h.of.name;
            may = sym h.of.may;
            strict = sym h.of.strict;
            peers_are = sym h.of.peers;
          }))
          (rw c.me.ensures h.cause) (c.in-Ok.ensures.stands past (rw back h.cause));
      trace = TraceStands_boot c.args.tick past;
    }
