use Rattle.std.proofs.Common.{◌≡◌, ◌∙◌, sym, ap, arith, refl, false}
use Rattle.std.{proofs.lemmas.Int.to_z-of_z, proofs.lemmas.List.Elements.All-nil, specs.Box.boxed_slice_items, specs.Int.w64}
use Rattle.tsp_measure.specs.{Measures.asks, Peers.MeasuredPeers, Peers.with_peer, declared.exchange.Exchange.Exchange}
use Rattle.tsp_base.proofs.AscendingLemmas.{Rise_numbers}
use Rattle.tsp_measure.proofs.Peers.{at_peer-found, at_peer-put, at_peer-others}
use Rattle.tsp_measure.proofs.exchanges.Exchanges.reply.Goals as goal

pub returns-in-Some-clause-replies : goal.returns-in-Some-clause-replies
returns-in-Some-clause-replies c =
    let found = rw (← c.self.view_is) at c.in-Some.ensures in
    let here : with_peer c.args.self.now c.args.peer.0 ≡ c.index_mut.result.now =
    ap (λ (x : MeasuredPeers). with_peer x c.args.peer.0) (sym c.self.view_is)
    ∙ at_peer-found (boxed_slice_items c.self.inside.peers) c.self.inside.measured.items c.args.peer.0 c.in-Some.place c.index_mut.result.now
    (Rise_numbers _ c.self.invariant.0) c.self.invariant.1.0 found.0 found.1
    ∙ sym c.index_mut.ensures.value in
    let there = at_peer-put (boxed_slice_items c.self.inside.peers) c.self.inside.measured.items c.args.peer.0 c.in-Some.place c.reply.new.self
    (Rise_numbers _ c.self.invariant.0) c.self.invariant.1.0 found.0 found.1 in
    rw (here, there) (rw (to_z-of_z w64 c.args.s c.ranges.s, to_z-of_z w64 c.args.d c.ranges.d) at c.reply.ensures)

pub returns-in-Some-clause-others : goal.returns-in-Some-clause-others
returns-in-Some-clause-others c q ne =
    let found = rw (← c.self.view_is) at c.in-Some.ensures in
    at_peer-others (boxed_slice_items c.self.inside.peers) c.self.inside.measured.items c.args.peer.0 q c.in-Some.place c.reply.new.self (omega (
      arith,
      found.0,
      c.self.invariant.1.0,
    )) found.1 ne
    ∙ ap (λ (x : MeasuredPeers). with_peer x q) c.self.view_is

pub returns-in-None-clause-replies : goal.returns-in-None-clause-replies
returns-in-None-clause-replies c =
    (rw c.in-None.ensures (All-nil (λ (e : Exchange). asks c.args.word c.args.counter e ≡ false)), refl)
