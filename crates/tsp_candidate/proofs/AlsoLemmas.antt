-- What a candidate's answers leave as it is: what is remembered, the clock, and what was taken.
use Rattle.std.specs.Prelude.{ℕ, refl}
use Rattle.tsp_base.specs.Words.{Keeps}
use Rattle.tsp_rules.specs.{CandidateRows.accepted_by, CandidateRows.refused_by, Values.PeerId}
use Rattle.tsp_rules.proofs.{BuiltRoles.built_accepted_by, BuiltRoles.built_refused_by, EmitsBuilt.emits_built}
use Rattle.tsp_slave.{proofs.BesideLemmas.AlsoStands_by, specs.SlaveStands.AlsoStands}

pub AlsoStands_accepted_by : (p : PeerId) (number : ℕ) → Keeps AlsoStands (accepted_by p number)
AlsoStands_accepted_by p number = AlsoStands_by (accepted_by p number) (emits_built refl (built_accepted_by p number tt))

pub AlsoStands_refused_by : (p : PeerId) (number : ℕ) → Keeps AlsoStands (refused_by p number)
AlsoStands_refused_by p number = AlsoStands_by (refused_by p number) (emits_built refl (built_refused_by p number tt))
