-- A peer of the port, where the quiet time is over.
use Rattle.std.proofs.Common.{sym, ◌∙◌}
use Rattle.tsp_node.proofs.HearLemmas.{heard_peer_holds, heard_stranger, is_stranger, unheard_peer}
use Rattle.tsp_node.proofs.part.Part.heard.Goals as goal

pub returns-in_default : goal.returns-in_default
returns-in_default c = sym (heard_stranger c.args.self.now.station c.args.from (is_stranger c.args.from c.in_default.not-Peer))

pub returns-then-hears : goal.returns-then-hears
returns-then-hears c = sym (heard_peer_holds c.args.self.now.station c.args.from c.in-Peer.p c.in-Peer.is (sym c.hears.ensures ∙ c.if-hears.true))

pub returns-else-hears : goal.returns-else-hears
returns-else-hears c = sym (unheard_peer c.args.self.now.station c.args.from c.in-Peer.p c.in-Peer.is (sym c.hears.ensures ∙ c.if-hears.false))
