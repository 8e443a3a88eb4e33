use Rattle.std.proofs.lemmas.List.Sorted.{searched}
use Rattle.std.proofs.Common.{ℕ}
use Rattle.tsp_base.proofs.AscendingLemmas.{Rise_numbers, never_falls}
use Rattle.tsp_measure.proofs.Peers.{found_or_missing}
use Rattle.tsp_measure.proofs.exchanges.place_of.Goals as goal

pub returns : goal.returns
returns c = rw c.ok.ensures.value (found_or_missing c.args.peers.now c.args.peer c.binary_search.result
    (searched c.args.peers.now c.args.peer c.binary_search.result c.binary_search.ensures.position (λ i j l h. never_falls (λ (n : ℕ). n) c.args.peers.now
    (Rise_numbers c.args.peers.now c.requires) i j 0 l h)))
