use Rattle.std.proofs.Common.{◌≡◌, ◌∙◌, sym, ap, refl}
use Rattle.std.specs.Box.{boxed_slice_items}
use Rattle.tsp_measure.{proofs.BestSamples.best_of_IsBestOf, proofs.Peers.at_peer-found, specs.Peers.MeasuredPeers, specs.Peers.with_peer}
use Rattle.tsp_base.proofs.AscendingLemmas.{Rise_numbers}
use Rattle.tsp_measure.proofs.exchanges.Exchanges.best.Goals as goal

pub returns-in-Some : goal.returns-in-Some
returns-in-Some c =
    let found = rw (← c.self.view_is) at c.in-Some.ensures in
    let here : with_peer c.args.self.now c.args.peer.0 ≡ c.index.result.now = ap (λ (x : MeasuredPeers). with_peer x c.args.peer.0) (sym c.self.view_is) ∙
    at_peer-found (boxed_slice_items c.self.inside.peers) c.self.inside.measured.items c.args.peer.0 c.in-Some.place c.index.result.now
    (Rise_numbers _ c.self.invariant.0) c.self.invariant.1.0 found.0 found.1 ∙ sym c.index.ensures in
    record { value = rw here c.best.ensures; first = best_of_IsBestOf (with_peer c.args.self.now c.args.peer.0).samples }

pub returns-in-None : goal.returns-in-None
returns-in-None c = record { value = rw c.in-None.ensures refl; first = best_of_IsBestOf (with_peer c.args.self.now c.args.peer.0).samples }
