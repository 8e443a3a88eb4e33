-- When a follower may take a correction.
use Rattle.std.specs.Prelude.{◌≡◌, ◌≤◌, ℕ, ◌+◌, Bool, true, List, ◌∷◌}
use Rattle.tsp_rules.specs.{GateRows.steers, Values.Follow, Values.PeerId}
use Rattle.tsp_base.specs.Words.{HeaderValue, Line, Past, Within, of, peer_of}
use Rattle.tsp_promises.specs.{Fits.node_of, Setting.Setting}
use Rattle.tsp_progress.specs.{ByTable.before_line, ByTable.node_in, ByTable.port_before, Heeds.role_before}

-- whenever p's port on the network of the line l takes something after that, at most `long` later, it follows the node of l, steers its node's clock, and
-- may take this correction: its number is the clock's ticket, the last correction is old enough, and the clock stays in its range
abbrev pub Obedient : HeaderValue → Setting → ℕ → Line → List Line → List Line → PeerId → (ℕ → Past → Bool) → Type 0
Obedient header setting long l older world p takes = (line : Line) (before : List Line) → Within (line ∷ before) world → Within (l ∷ older) before →
    node_of line ≡ p.0 → setting.net (node_of line) line.port ≡ setting.net (node_of l) l.port → line.did.step.at ≤ l.did.step.at + long →
    (role_before (node_in header p.0) line (of p.0 before) ≡ Follow (peer_of (node_of l)))
    × ((steers line.port line.did.tick (before_line (node_in header p.0) line (of p.0 before)) ≡ true)
    × (takes line.did.tick (port_before (node_in header p.0) line (of p.0 before)) ≡ true))
