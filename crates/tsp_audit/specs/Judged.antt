-- What fails of a history.
use Rattle.std.specs.Prelude.{◌≡◌, ◌<◌, ℕ, List, Option, None, Some}
use Rattle.tsp_audit.specs.{Parts.Part, Parts.part_number, Parts.PartHolds, Parts.AllKeep, declared.premises.Premises.Premises}
use Rattle.tsp_base.specs.Words.{Line}
use Rattle.tsp_promises.specs.Setting.{Setting}

-- the part with this number fails of a history, and all lesser ones hold
pub record FailsNow (premises : Premises) (setting : Setting) (h : List Line) (number : ℕ) : Type 0 where
  pub part : Part
  pub number_is : part_number part ≡ number
  pub fails : PartHolds premises setting part h → ⊥
  pub lesser : (q : Part) → part_number q < number → PartHolds premises setting q h

-- all parts hold of a history, or the part with this number is the least that fails
abbrev pub JudgesParts : Premises → Setting → List Line → Option ℕ → Type 0
JudgesParts premises setting h None = AllKeep premises setting h
JudgesParts premises setting h (Some number) = FailsNow premises setting h number
