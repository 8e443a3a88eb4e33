-- The promise of how far a clock is behind its master's after a SETTIME.
use Rattle.std.specs.Prelude.{◌≡◌, ◌≤◌, ◌≤ℤ◌, ℕ, ◌+◌, ◌-◌, ℤ, pos, ◌-ℤ◌, nat_abs, List, ◌∷◌}
use Rattle.tsp_rules.specs.Values.{SetTime, LAST, LIFE}
use Rattle.tsp_base.specs.Words.{Line, of, dids, plain, Undisturbed, width}
use Rattle.tsp_promises.specs.{Agreed.Unchanged, ClockAt.clock_at, Everywhere.Everywhere, Fits.node_of, OneError.Taking, Setting.Setting}

-- the Correct c takes a post of a SETTIME of m. Up to the history h c's node neither booted nor corrected its clock
-- after c, nor m after the SETTIME's send began
pub record SetBy (m : ℕ) (c : Line) (past h : List Line) : Type 0 where
  pub taking : Taking m c past
  pub sets : taking.acts.brings.message.kind ≡ SetTime
  pub unchanged : Unchanged (node_of c) (c ∷ past) h
  pub unchanged_master : Undisturbed (plain taking.begun) (dids (of m h))

-- how long after the send began the clock was set, in microseconds of true time
abbrev pub on_way : (m : ℕ) (c : Line) (past h : List Line) → SetBy m c past h → ℕ
on_way m c past h s = c.did.step.at - s.taking.first.step.at

-- by how many microseconds the clock of c's node is behind that of m at a true time
abbrev pub behind : Setting → ℕ → Line → List Line → ℕ → ℤ
behind setting m c h t = clock_at setting m h t -ℤ clock_at setting (node_of c) h t

-- from the Correct on: the clock is behind by the time that the SETTIME was on its way, its repeats counted, give or
-- take drift
pub record BehindBy (setting : Setting) (m : ℕ) (c : Line) (past h : List Line) (s : SetBy m c past h) (t : ℕ) : Type 0 where
  pub near : pos (nat_abs (behind setting m c h t -ℤ pos (on_way m c past h s))) ≤ℤ pos (width setting.drift (t - s.taking.first.step.at) + width setting.drift
      (t - c.did.step.at))

-- right at the Correct it isn't ahead, and is behind by at most that
pub record BehindAtOnce (setting : Setting) (m : ℕ) (c : Line) (past h : List Line) (s : SetBy m c past h) : Type 0 where
  pub low : pos 0 ≤ℤ behind setting m c h c.did.step.at
  pub high : behind setting m c h c.did.step.at ≤ℤ pos (on_way m c past h s + width setting.drift (on_way m c past h s))

-- both, after the history h
pub record FirstSetAt (setting : Setting) (h : List Line) : Type 0 where
  pub later : (m : ℕ) (c : Line) (past : List Line) (s : SetBy m c past h) (t : ℕ) → c.did.step.at ≤ t → BehindBy setting m c past h s t
  pub at_once : (m : ℕ) (c : Line) (past : List Line) (s : SetBy m c past h) → BehindAtOnce setting m c past h s

-- so it is at each place of the history
abbrev pub FirstSet : Setting → List Line → Type 0
FirstSet setting = Everywhere (λ l before. FirstSetAt setting (l ∷ before))

-- if no datagram outlives LIFE, it is behind by at most LAST and LIFE (34 s), and drift
abbrev pub FirstSetSoon : Setting → List Line → Type 0
FirstSetSoon setting = Everywhere (λ l before. (m : ℕ) (c : Line) (past : List Line) (s : SetBy m c past (l ∷ before)) →
    behind setting m c (l ∷ before) c.did.step.at ≤ℤ pos (LAST + LIFE + width setting.drift LIFE))
