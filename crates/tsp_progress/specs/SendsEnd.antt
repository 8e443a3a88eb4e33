-- A numbered send ends soon.
use Rattle.std.specs.Prelude.{◌≡◌, ◌≤◌, ℕ, ◌+◌, ◌*◌, List, Some}
use Rattle.tsp_rules.specs.Values.{PeerId, RETRY, TRIES}
use Rattle.tsp_base.specs.Words.{Line, Seen, Sending, open_send}
use Rattle.tsp_promises.specs.Setting.{Setting}
use Rattle.tsp_progress.specs.Watched.{AtBegins, AtEnd}

-- a send of the port that is open at tick x began at most TRIES times RETRY (3 s) and `late` before
abbrev pub SendEnds : ℕ → ℕ → List Seen → Type 0
SendEnds late x seen = (p : PeerId) (s : Sending) → open_send p seen ≡ Some s → x ≤ s.began + (TRIES * RETRY + late)

-- this is so wherever a step begins
abbrev pub SendsEnd : ℕ → List Line → Type 0
SendsEnd late = AtBegins (SendEnds late)

-- and at node n after the whole history, which is told up to the true time t
abbrev pub SendsEnded : ℕ → Setting → ℕ → ℕ → List Line → Type 0
SendsEnded late = AtEnd (SendEnds late)
