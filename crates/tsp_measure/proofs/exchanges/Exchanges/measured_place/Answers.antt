-- Nothing is measured with a peer past the list's end.
use Rattle.std.proofs.Common.{◌≤◌, ◌∙◌, sym, ap, length, rules}
use Rattle.std.specs.Box.{boxed_slice_items}
use Rattle.tsp_base.proofs.AscendingLemmas.{Rise_numbers}
use Rattle.tsp_measure.{proofs.Peers.at_peer_missing, proofs.Peers.at_peer_past, specs.Peers.MeasuredPeers, specs.Peers.with_peer}
use Rattle.tsp_measure.proofs.exchanges.Exchanges.measured_place.Goals as goal

pub returns-in-None : goal.returns-in-None
returns-in-None c =
    let missing = rw c.as_slice.ensures.value at c.in-None.ensures in
    ap (λ (x : MeasuredPeers). with_peer x c.args.peer.0) (sym c.self.view_is) ∙ at_peer_missing (boxed_slice_items c.self.inside.peers)
    c.self.inside.measured.items c.args.peer.0 missing

pub returns-else-place-len : goal.returns-else-place-len
returns-else-place-len c =
    let found = rw c.as_slice.ensures.value at c.in-Some.ensures in
    let past : length c.self.inside.measured.items ≤ c.in-Some.place = search rules in
    ap (λ (x : MeasuredPeers). with_peer x c.args.peer.0) (sym c.self.view_is) ∙ at_peer_past (boxed_slice_items c.self.inside.peers)
    c.self.inside.measured.items c.args.peer.0 c.in-Some.place (Rise_numbers _ c.self.invariant.0) past found.0 found.1
