-- Whoever is heard has its send ended, in every role alike.
use Rattle.std.proofs.Common.{◌≡◌, refl, sym}
use Rattle.tsp_rules.specs.{Answers.peer_says, Answers.says_in, Values.Ack}
use Rattle.tsp_node.proofs.HearLemmas.{audience_sends, heard_peer, heard_role, Performs_by_role, Performs_heard_by, Performs_unheard, says_ack}
use Rattle.tsp_node.proofs.{NodeLemmas.Performs_acknowledged, PartLemmas.still_alike}
use Rattle.tsp_rules.proofs.{BuiltShared.built_acknowledges, EmitsBuilt.emits_built}
use Rattle.tsp_node.proofs.part.Part.hear_ack.Goals as goal

pub returns-in_default-clause-row : goal.returns-in_default-clause-row
returns-in_default-clause-row g c took x clock = Performs_unheard c.args.from (peer_says c.args.m.now) (sym c.in_default.ensures)

pub acknowledge-requires-clause-peer : goal.acknowledge-requires-clause-peer
acknowledge-requires-clause-peer g c = heard_peer c.args.self.now.station c.args.from c.in-Some.p (sym c.in-Some.ensures)

pub returns-in-Some-clause-row : goal.returns-in-Some-clause-row
unfolding peer_says
returns-in-Some-clause-row g c took x clock =
    let st = c.args.self.now.station in
    let m = c.args.m.now in
    let from = c.args.from in
    let p = c.in-Some.p in
    let ack : m.kind ≡ Ack = audience_sends m.kind c.requires.audience in
    let row = rw c.number.ensures at (c.acknowledge.ensures.row x) in
    let heard = sym c.in-Some.ensures in
    Performs_heard_by from p (peer_says m) heard (Performs_by_role (says_in p m) (rw (says_ack p m st.role ack (heard_role st from p heard))
    (Performs_acknowledged refl refl refl refl (emits_built refl (built_acknowledges p m.number tt)) row)))

pub invariant_of-self : goal.invariant_of-self
invariant_of-self g c = still_alike c.args.self.now c.acknowledge.ensures.peers refl refl c.acknowledge.ensures.port.peers
