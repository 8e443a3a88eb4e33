-- A master's rounds recur.
use Rattle.std.specs.Prelude.{◌≡◌, ◌⊎◌, ℕ, ◌+◌, List}
use Rattle.tsp_rules.specs.Values.{Round, Master, ROUND, WAIT}
use Rattle.tsp_base.specs.Words.{Line, Seen, role}
use Rattle.tsp_promises.specs.Setting.{Setting}
use Rattle.tsp_progress.specs.InTime.{ArmedWithin, StartedWithin, StoodWithin}
use Rattle.tsp_progress.specs.Watched.{AtBegins, AtEnd}

-- a master won, or began a round, at most ROUND ticks (240 s) and `late` ago; or it waits for the round of another port of its node, since at
-- most WAIT ticks (20 s) and `late`
abbrev pub RoundBegins : ℕ → ℕ → List Seen → Type 0
RoundBegins late x seen = role seen ≡ Master → StoodWithin (ROUND + late) x seen ⊎
    (StartedWithin (ROUND + late) x seen ⊎ ArmedWithin Round (WAIT + late) x seen)

-- wherever a step begins
abbrev pub RoundsRecur : ℕ → List Line → Type 0
RoundsRecur late = AtBegins (RoundBegins late)

-- and at node n after the whole history, which is told up to the true time t
abbrev pub RoundsRecurred : ℕ → Setting → ℕ → ℕ → List Line → Type 0
RoundsRecurred late = AtEnd (RoundBegins late)
