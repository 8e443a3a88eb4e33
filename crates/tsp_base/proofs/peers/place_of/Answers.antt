-- A peer at the place of its number is found there; else a binary search answers.
use Rattle.std.proofs.Common.{rules}
use Rattle.std.proofs.lemmas.List.Sorted.{answers_always}
use Rattle.tsp_base.specs.declared.place.PeerId.{PeerId}
use Rattle.tsp_base.proofs.peers.place_of.Goals as goal

pub returns-clause-position : goal.returns-clause-position
returns-clause-position c = c.binary_search_by_key.ensures.position (λ (q : PeerId). q.0) (answers_always _ _ _ (λ f a r g h. search rules))
