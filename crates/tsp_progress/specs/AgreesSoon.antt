-- Clocks that one round corrected agree within twice `long`, and drift.
use Rattle.std.specs.Prelude.{◌≤◌, ℕ, ◌+◌, ◌*◌, ℤ, pos, List, ◌∷◌}
use Rattle.tsp_rules.specs.Values.{Event}
use Rattle.tsp_base.specs.Words.{HeaderValue, Line, Within, dids, time_of}
use Rattle.tsp_promises.specs.{Agreed.FromRound, Agreed.Unchanged, Agreed.UnchangedBut, ClockAt.ClocksWithin, ClockAt.drifted, Fits.node_of}
use Rattle.tsp_promises.specs.{Premises.Honest, Premises.Life, Premises.TakenWithinAt, Setting.Setting}
use Rattle.tsp_run.specs.Clocked.{Clocks, PossibleBy, SetByClocks, run_by}
use Rattle.tsp_run.specs.{Possible.Possible, Run.run, Setting.SetBy}
use Rattle.tsp_progress.specs.{ErrSoon.soon_err, FollowOn.AfterPlace}

-- the Correct c takes what this Close of m corrects its node by, which rests on a reading after the place s; after that its node is left alone up to h
pub record CorrectedBy (s : List Line) (m : ℕ) (close : Line) (before : List Line) (c : Line) (past : List Line) (r : Line) (older h : List Line) : Type 0
  where
    pub err : ℤ
    pub rests : FromRound m close before c past r older err
    pub since : Within s older
    pub unchanged : Unchanged (node_of c) (c ∷ past) h

-- at each place of the history, and at each true time from then until the next line
pub record AgreeSoon (setting : Setting) (long : ℕ) (s world : List Line) : Type 0 where
  -- the clocks of any two nodes that one Close corrected differ by at most the errors and the drift since the readings
  pub peers : (h : List Line) (time m : ℕ) (close : Line) (before : List Line) (c d : Line) (past qast : List Line) (r q : Line) (older qolder : List Line) →
      Within h world → time_of (dids h) ≤ time →
      CorrectedBy s m close before c past r older h → CorrectedBy s m close before d qast q qolder h →
      ClocksWithin setting h time (node_of c) (node_of d) (pos (2 * soon_err setting long + (drifted setting time r + drifted setting time q)))
  -- and so do that of one and its master's, as long as that is left alone since its Close, but for its own correction then
  pub master : (h : List Line) (time m : ℕ) (close : Line) (before : List Line) (c : Line) (past : List Line) (r : Line) (older : List Line) →
      Within h world → time_of (dids h) ≤ time → CorrectedBy s m close before c past r older h → UnchangedBut m close before h →
      ClocksWithin setting h time (node_of c) m (pos (soon_err setting long + drifted setting time r))

-- in a possible run in which nothing is taken after the place s that was posted more than `long` before
abbrev pub RunsAgreeSoon : Type 0
RunsAgreeSoon = (header : HeaderValue) (setting : Setting) (events : List Event) (long : ℕ) (s : List Line) → SetBy header setting →
    Possible header events → Honest (run header events) → Life (run header events) →
    AfterPlace s (run header events) (λ l older. TakenWithinAt long l older) → AgreeSoon setting long s (run header events)

-- by any clocks
abbrev pub ClockedRunsAgreeSoon : Type 0
ClockedRunsAgreeSoon = (clocks : Clocks) (header : HeaderValue) (setting : Setting) (events : List Event) (long : ℕ) (s : List Line) →
    SetByClocks clocks header setting → PossibleBy clocks header events → Honest (run_by clocks header events) → Life (run_by clocks header events) →
    AfterPlace s (run_by clocks header events) (λ l older. TakenWithinAt long l older) → AgreeSoon setting long s (run_by clocks header events)
