-- The peers are ascending, and nothing is measured yet.
use Rattle.std.proofs.Common.{◌≡◌, ◌∙◌, arith, sym, ap, subst, length}
use Rattle.std.{proofs.lemmas.List.length-map, specs.Box.boxed_slice_items, specs.List.Sorted.IsStrictlyIncreasing}
use Rattle.tsp_base.specs.declared.place.PeerId.{PeerId}
use Rattle.tsp_measure.proofs.Peers.{at_peer_nothing}
use Rattle.tsp_measure.proofs.exchanges.Exchanges.new.Goals as goal

pub invariant_of-result : goal.invariant_of-result
invariant_of-result c =
    let many : length (boxed_slice_items c.in_ok-numbers.numbers) ≡ length c.args.peers.now = ap length c.in_ok-numbers.ensures ∙
    length-map c.args.peers.now (λ (p : PeerId). p.0) in (
      subst IsStrictlyIncreasing (sym c.in_ok-numbers.ensures) c.requires,
      (omega (arith, ap length c.in_ok-measured.ensures.items), omega (arith, many, c.in_ok-measured.ensures.exact)),
    )

pub returns-clause-nothing : goal.returns-clause-nothing
returns-clause-nothing c p = rw c.in_ok-measured.ensures.items (at_peer_nothing (boxed_slice_items c.in_ok-numbers.numbers) p)
