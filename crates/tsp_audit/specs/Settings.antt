-- What a verdict takes from a schedule's header.
use Rattle.std.specs.Prelude.{◌≡◌, ℕ, ◌≤◌, ℤ, pos, ◌+ℤ◌, List}
use Rattle.tsp_promises.specs.{Everywhere.Everywhere, Setting.Setting}
use Rattle.tsp_base.specs.Words.{HeaderValue, Line, dids, of, moved, tick_at}
use Rattle.tsp_run.specs.Setup.{node_line}

-- a setting has the header's drift, rates and walls, and a node's wall is the same in all its lives
pub record HasClocks (header : HeaderValue) (setting : Setting) : Type 0 where
  pub tick_is : (n t : ℕ) → setting.tick n t ≡ tick_at (node_line header n).rate t
  pub wall_is : (n life : ℕ) → setting.wall n life ≡ (node_line header n).wall
  pub drift_is : setting.drift ≡ header.drift

-- the clock of node n at a true time, when the history is h
abbrev pub clock_in : HeaderValue → ℕ → List Line → ℕ → ℤ
clock_in header n h at = ((node_line header n).wall +ℤ moved (dids (of n h))) +ℤ pos (tick_at (node_line header n).rate at)

-- each line stands at a true time of a schedule, at most 10^15 microseconds
abbrev pub Timely : List Line → Type 0
Timely = Everywhere (λ l before. l.did.step.at ≤ 1000000000000000)
