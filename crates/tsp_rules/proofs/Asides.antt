-- A port's past after acts of its node on another port.
use Rattle.std.proofs.Common.{ap, ◌≡◌, ℕ, ◌==◌, false, List, ◌∷◌}
use Rattle.tsp_base.specs.Words.{Did, Acts, Elsewhere, Past, placed}
use Rattle.tsp_rules.specs.{NodeRows.NodePast, NodeRows.on_port, NodeRows.spread, Values.Act, Values.Port}
use Rattle.tsp_rules.proofs.NodeRowLemmas.{passed, Bootless, view_other}

-- an act done now
abbrev pub now : ℕ → Past → Act → Did
now x past a = record { step = past.step; tick = x; deed = Acts a }

-- the past after an act on another port
abbrev pub aside : ℕ → Past → Act → Past
aside x past a = record past { seen = Elsewhere (now x past a) ∷ past.seen }

abbrev pub all_aside : ℕ → Past → List Act → Past
all_aside x past acts = record past { seen = passed past.step x acts past.seen }

-- what another port sees of a port's acts
pub on_other : (q r : Port) (x : ℕ) (past : NodePast) (acts : List Act) → (q.0 == r.0) ≡ false → Bootless acts → on_port r (spread x past (placed q acts)) ≡
    all_aside x (on_port r past) acts
on_other q r x past acts n b = ap (λ s. record (on_port r past) { seen = s }) (view_other q r past.step x acts past.lines n b)
