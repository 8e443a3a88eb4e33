-- The arguments of `storm`.
use Rattle.std.specs.Prelude.{ℕ, ◌^◌, ◌<◌, ◌≤◌, List, [], ◌∷◌, decimal}
use Rattle.tsp_args.specs.declared.storm.StormWords.{StormWords}

-- what follows `storm`
abbrev pub storm_words : StormWords → List (List ℕ)
storm_words s = decimal s.seed ∷ decimal s.nodes ∷ decimal s.events ∷ []

-- numbers in their ranges
pub record IsStorm (s : StormWords) : Type 0 where
  pub seed : s.seed < 2 ^ 64
  pub some : 1 ≤ s.nodes
  pub nodes : s.nodes ≤ 64
  pub any : 1 ≤ s.events
  pub events : s.events ≤ 200000
