-- A binary search finds a peer that is there.
use Rattle.std.proofs.Common.{rules}
use Rattle.std.proofs.lemmas.List.Sorted.{answers_always}
use Rattle.tsp_rules.specs.Values.{PeerId}
use Rattle.tsp_resolve.proofs.MarkedLemmas.{always_searched}
use Rattle.tsp_resolve.proofs.resolve.place_of.Goals as goal

pub returns-in-Ok : goal.returns-in-Ok
returns-in-Ok c =
    let place = always_searched c.args.p c.args.peers.now c.binary_search_by_key.result c.requires.peers c.requires.peer c.binary_search_by_key.ensures.bound
    (c.binary_search_by_key.ensures.position (λ (q : PeerId). q.0) (answers_always _ _ _ (λ f a r g h. search rules))) in
    rw c.in-Ok.is at place

pub returns-in-Err : goal.returns-in-Err
returns-in-Err c =
    let place = always_searched c.args.p c.args.peers.now c.binary_search_by_key.result c.requires.peers c.requires.peer c.binary_search_by_key.ensures.bound
    (c.binary_search_by_key.ensures.position (λ (q : PeerId). q.0) (answers_always _ _ _ (λ f a r g h. search rules))) in
    absurd (rw c.in-Err.is at place)
