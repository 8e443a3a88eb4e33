-- A binary search by the peers' numbers.
use Rattle.std.proofs.Common.{rules}
use Rattle.std.proofs.lemmas.List.Sorted.{answers_always}
use Rattle.tsp_measure.{proofs.Entries.Rising_peers, proofs.Entries.IsPlaceOf_searched, specs.declared.entry.Entry.Entry}
use Rattle.tsp_measure.proofs.slaves.place_of.Goals as goal

pub returns : goal.returns
returns c =
    IsPlaceOf_searched c.args.entries.now c.args.peer c.binary_search_by_key.result (Rising_peers _ c.requires) c.binary_search_by_key.ensures.bound
    (c.binary_search_by_key.ensures.position (λ (e : Entry). e.peer.0) (answers_always _ _ _ (λ f a r g h. search rules)))
