-- A list whose neighbours rise is ascending.
use Rattle.std.proofs.{Common.rules, Common.nat_lt, lemmas.List.Sorted.answers_always}
use Rattle.tsp_node.proofs.ConfigLemmas.{IsAscending_answer}
use Rattle.tsp_node.proofs.config.is_ascending.Goals as goal

pub returns : goal.returns
returns c = IsAscending_answer c.args.peers.now _ (c.is_sorted_by.ensures.cases (λ p q. nat_lt p.0 q.0) (answers_always _ _ _ (λ f a r g k. search rules)))
