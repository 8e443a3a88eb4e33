-- The exchange is the peer's last one, in a list that has the peer's place.
use Rattle.std.proofs.Common.{◌≡◌, ◌∙◌, ◌<◌, ◌++◌, ◌∷◌, [], List, length, sym, ap, subst}
use Rattle.std.{proofs.lemmas.Int.to_z-of_z, specs.Box.boxed_slice_items, specs.Int.w64}
use Rattle.tsp_measure.specs.{Measures.Measured, Measures.begun, Peers.MeasuredPeers, Peers.with_peer, declared.exchange.Exchange.Exchange}
use Rattle.tsp_base.proofs.AscendingLemmas.{Rise_numbers}
use Rattle.tsp_measure.proofs.Peers.{at_peer-found, at_peer-put, at_peer-others}
use Rattle.tsp_measure.proofs.exchanges.Exchanges.start.Goals as goal

pub start-requires-clause-few : goal.start-requires-clause-few
start-requires-clause-few c =
    let same : boxed_slice_items c.self-in-Some.inside.peers ≡ boxed_slice_items c.self.inside.peers =
    ap (λ (x : MeasuredPeers). x.peers) c.self-in-Some.view_is ∙ c.lengthen.ensures.peers ∙ sym (ap (λ (x : MeasuredPeers). x.peers) c.self.view_is) in
    let found = rw (c.as_slice.ensures.value, ← same) at c.in-Some.ensures in
    let inside : c.in-Some.place < length c.self-in-Some.inside.measured.items = subst (λ (ms : List Measured). c.in-Some.place < length ms)
    (sym (ap (λ (x : MeasuredPeers). x.measured) c.self-in-Some.view_is)) c.lengthen.ensures.long in
    let here : with_peer c.args.self.now c.args.peer.0 ≡ c.index_mut.result.now =
    sym (c.lengthen.ensures.same c.args.peer.0) ∙ ap (λ (x : MeasuredPeers). with_peer x c.args.peer.0) (sym c.self-in-Some.view_is)
    ∙ at_peer-found (boxed_slice_items c.self-in-Some.inside.peers) c.self-in-Some.inside.measured.items c.args.peer.0 c.in-Some.place c.index_mut.result.now
    (Rise_numbers _ c.self-in-Some.invariant.0) c.self-in-Some.invariant.1.0 inside found.1
    ∙ sym c.index_mut.ensures.value in
    subst (λ (m : Measured). begun m < 4) here c.requires.few

pub returns-clause-started : goal.returns-clause-started
returns-clause-started c =
    let same : boxed_slice_items c.self-in-Some.inside.peers ≡ boxed_slice_items c.self.inside.peers =
    ap (λ (x : MeasuredPeers). x.peers) c.self-in-Some.view_is ∙ c.lengthen.ensures.peers ∙ sym (ap (λ (x : MeasuredPeers). x.peers) c.self.view_is) in
    let found = rw (c.as_slice.ensures.value, ← same) at c.in-Some.ensures in
    let inside : c.in-Some.place < length c.self-in-Some.inside.measured.items = subst (λ (ms : List Measured). c.in-Some.place < length ms)
    (sym (ap (λ (x : MeasuredPeers). x.measured) c.self-in-Some.view_is)) c.lengthen.ensures.long in
    let here : with_peer c.args.self.now c.args.peer.0 ≡ c.index_mut.result.now =
    sym (c.lengthen.ensures.same c.args.peer.0) ∙ ap (λ (x : MeasuredPeers). with_peer x c.args.peer.0) (sym c.self-in-Some.view_is)
    ∙ at_peer-found (boxed_slice_items c.self-in-Some.inside.peers) c.self-in-Some.inside.measured.items c.args.peer.0 c.in-Some.place c.index_mut.result.now
    (Rise_numbers _ c.self-in-Some.invariant.0) c.self-in-Some.invariant.1.0 inside found.1
    ∙ sym c.index_mut.ensures.value in
    at_peer-put (boxed_slice_items c.self-in-Some.inside.peers) c.self-in-Some.inside.measured.items c.args.peer.0 c.in-Some.place c.start.new.self
    (Rise_numbers _ c.self-in-Some.invariant.0) c.self-in-Some.invariant.1.0 inside found.1
    ∙ (rw (to_z-of_z w64 c.args.a c.ranges.a) at c.start.ensures)
    ∙ ap (λ (m : Measured). let e : Exchange = record { word = c.args.word; counter = c.args.counter; a = c.args.a } in
    record m { pending = m.pending ++ e ∷ [] }) (sym here)

pub returns-clause-others : goal.returns-clause-others
returns-clause-others c q ne =
    let same : boxed_slice_items c.self-in-Some.inside.peers ≡ boxed_slice_items c.self.inside.peers =
    ap (λ (x : MeasuredPeers). x.peers) c.self-in-Some.view_is ∙ c.lengthen.ensures.peers ∙ sym (ap (λ (x : MeasuredPeers). x.peers) c.self.view_is) in
    let found = rw (c.as_slice.ensures.value, ← same) at c.in-Some.ensures in
    at_peer-others (boxed_slice_items c.self-in-Some.inside.peers) c.self-in-Some.inside.measured.items c.args.peer.0 q c.in-Some.place c.start.new.self found.0
    found.1 ne
    ∙ ap (λ (x : MeasuredPeers). with_peer x q) c.self-in-Some.view_is ∙ c.lengthen.ensures.same q
