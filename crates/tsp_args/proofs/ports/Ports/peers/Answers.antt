use Rattle.std.proofs.Common.{◌∙◌, sym, ap, ◌++◌, List, flat_map}
use Rattle.std.proofs.lemmas.List.{take_all}
use Rattle.tsp_io.specs.declared.addr.Addr.{Addr}
use Rattle.tsp_args.{proofs.WordLemmas.all_peers_last, specs.Ports.all_peers}
use Rattle.tsp_args.proofs.ports.Ports.peers.Goals as goal

pub returns : goal.returns
returns c =
    let done = take_all c.loop-port.port-index c.as_slice-port-items.result.now c.loop-port-test.false ∙ c.as_slice-port-items.ensures.value in
    let before = c.loop-port.invariant ∙ ap (λ vs. flat_map (λ v. v.items) vs) done in
    c.in_ok-extend_from_slice-2.ensures.items ∙ ap (λ (xs : List Addr). xs ++ c.as_slice-2.result.now) before
    ∙ ap (λ (xs : List Addr). flat_map (λ v. v.items) c.self.inside.done.items ++ xs) c.as_slice-2.ensures.value
    ∙ sym (all_peers_last (λ v. v.items) c.self.inside.done.items c.self.inside.last.items) ∙ ap all_peers c.self.view_is
