-- What answers to ELECTIONs do to a station.
use Rattle.std.specs.Prelude.{◌≡◌, ℕ, Bool, false, List}
use Rattle.tsp_rules.specs.Values.{Placed, Port}
use Rattle.tsp_base.specs.Words.{Past, Performs, Row, nothing, either_by}
use Rattle.tsp_base.proofs.PerformsLemmas.{Performs_else_part, Performs_nothing}
use Rattle.tsp_acks.specs.{Stands.StationStands, declared.station.Station.Station}

-- where the test fails and nothing was done
pub Performs_passed_over : (test : ℕ → Past → Bool) (r : Row) {x : ℕ} {port : Port} {before after : Station} {old new : List Placed} →
    ((past : Past) → StationStands past before → test x past ≡ false) →
    after ≡ before → new ≡ old → Performs StationStands StationStands (either_by test r nothing) x port before after old new
Performs_passed_over test r t same put = rw (same, put) (Performs_else_part test r t Performs_nothing)
