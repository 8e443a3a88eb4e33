-- What is handed over to an output.
use Rattle.std.specs.Prelude.{◌≡◌, ℕ, List, ◌++◌}
use Rattle.std.specs.declared.option.Option.{Option}
use Rattle.tsp_io.specs.Streams.{Grows}

-- these octets were handed over: with what was held before they are what was written since and what is held now
abbrev pub Hands : Option (List ℕ) → List ℕ → Option (List ℕ) → List ℕ → List ℕ → Type 0
Hands written held now keeps octets = (passed : List ℕ) × Grows written now passed × (held ++ octets ≡ passed ++ keeps)
