-- Host names.
use Rattle.std.specs.Prelude.{◌≡◌, ℕ, ◌≤◌, ◌<◌, List, length, Ok, Err}
use Rattle.std.specs.{List.Contains, declared.result.Result.Result}
use Rattle.tsp_base.specs.declared.name.NameFault.{NameFault, TheVariants.TooLong, TheVariants.HasNul as HasNulFault}

-- an octet of the list is zero
abbrev pub HasNul : List ℕ → Type 0
HasNul octets = Contains octets 0

-- at most 255 octets, none of them zero
pub record IsName (octets : List ℕ) : Type 0 where
  pub short : length octets ≤ 255
  pub no_nul : ¬ HasNul octets

-- what making a name of these octets gives
abbrev pub NameGives : Result (List ℕ) NameFault → List ℕ → Type 0
NameGives (Ok name) octets = IsName octets × (name ≡ octets)
NameGives (Err TooLong) octets = 255 < length octets
NameGives (Err HasNulFault) octets = (length octets ≤ 255) × HasNul octets
