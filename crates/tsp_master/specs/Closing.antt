-- What a close reads of a master's table and exchanges.
use Rattle.std.specs.Prelude.{List, map, Option}
use Rattle.std.specs.{List.filter, Option.option_map}
use Rattle.tsp_base.specs.Words.{Estimate}
use Rattle.tsp_measure.specs.{Measures.best_of, Rounds.RoundsValue, Rounds.estimate_in, Rounds.measured_with, declared.entry.Entry.Entry}
use Rattle.tsp_rules.specs.{RoundRows.Standing, Values.PeerId}
use Rattle.tsp_measure.specs.{Slaves.entry_of, Slaves.peers_of, declared.sample.TimedSample.TimedSample}

-- those of some peers that are measured
abbrev pub measured_of : List Entry → List PeerId → List PeerId
measured_of es ps = filter (λ (p : PeerId). (entry_of es p).measured) ps

-- what the best sample of a peer says
abbrev pub estimate_with : RoundsValue → PeerId → Option Estimate
estimate_with v p = option_map (λ (t : TimedSample). estimate_in t.sample) (best_of (measured_with v p).samples)

-- a peer, and what its best sample says
abbrev pub standing_with : RoundsValue → PeerId → Standing
standing_with v p = record { peer = p; best = estimate_with v p }

-- what the round has come to with those of some peers that are measured
abbrev pub standings_of : List Entry → RoundsValue → List PeerId → List Standing
standings_of es v ps = map (standing_with v) (measured_of es ps)

-- what the round has come to: each measured peer with its best sample
abbrev pub round_of : List Entry → RoundsValue → List Standing
round_of es v = standings_of es v (peers_of es)
