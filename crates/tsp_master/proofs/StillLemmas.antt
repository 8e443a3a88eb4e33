-- Rows of a master's alarms that don't correct the clock.
use Rattle.std.proofs.Common.{◌≡◌, ℕ, false, refl}
use Rattle.tsp_base.specs.Words.{Past}
use Rattle.tsp_rules.proofs.{BuiltRounds.built_probe_rings, BuiltRounds.built_round_rings, EmitsStill.corrects_none, EmitsStill.still_sorts}
use Rattle.tsp_rules.{specs.RoundRows.corrects, specs.RoundRows.probe_rings, specs.RoundRows.round_rings, proofs.EmitsBuilt.emits_built}

pub probe_corrects : (x : ℕ) (past : Past) → corrects (probe_rings x past) ≡ false
probe_corrects x past = corrects_none (probe_rings x past) ((emits_built {all = still_sorts} refl built_probe_rings).only x past)

pub round_corrects : (x : ℕ) (past : Past) → corrects (round_rings false x past) ≡ false
round_corrects x past = corrects_none (round_rings false x past) ((emits_built {all = still_sorts} refl (built_round_rings false)).only x past)
