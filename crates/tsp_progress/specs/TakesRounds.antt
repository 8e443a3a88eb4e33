-- Each follower is moved by each round of its master, soon after the Close, and left alone until the next.
use Rattle.std.specs.Prelude.{◌≡◌, ◌≤◌, ◌<◌, ℕ, ◌+◌, ◌==◌, ℤ, Bool, true, false, List, ◌∷◌}
use Rattle.tsp_rules.specs.Values.{Close, Event, SLACK}
use Rattle.tsp_base.specs.Words.{Acts, HeaderValue, Line, Within, dids, time_of}
use Rattle.tsp_promises.specs.{Agreed.Unchanged, Agreed.UnchangedBut, Fits.node_of, Premises.Honest, Premises.Life, Setting.Setting}
use Rattle.tsp_run.specs.Clocked.{Clocks, PossibleBy, SetByClocks, run_by}
use Rattle.tsp_run.specs.{Possible.Possible, Run.run, Setting.SetBy}
use Rattle.tsp_progress.specs.{Delivered.Delivered, FollowOn.Calm, FollowOn.FollowUntil, InTable.InTable, InTable.KeepsRange, InTable.SetsNone}
use Rattle.tsp_progress.specs.{InTable.Undated, LateClose.LateClose, LateClose.OfRound, OneWire.OneWire, SampledInTime.IsSwift, Watched.Attended}
use Rattle.tsp_progress.specs.{Watched.Told}

-- node c closes no other round after this Close, up to the place h
abbrev pub NoneSince : ℕ → Line → List Line → List Line → Type 0
NoneSince c close past h = (other : Line) (before : List Line) (count : ℕ) (lo size mean : ℤ) → Within (other ∷ before) h → Within (close ∷ past) before →
    node_of other ≡ c → other.did.deed ≡ Acts (Close count lo size mean) → ⊥

-- n's clock takes what the round corrects it by, at most `long` after the Close, and is left alone until the next one
pub record TakesRound (long t c n : ℕ) (s : List Line) (close : Line) (past world : List Line) : Type 0 where
  pub correct : Line
  pub before : List Line
  pub place : Within (correct ∷ before) world
  pub node : node_of correct ≡ n
  pub after : Within (close ∷ past) before
  pub soon : correct.did.step.at ≤ close.did.step.at + long
  pub round : OfRound s c close past correct before
  pub left : (h : List Line) → Within (correct ∷ before) h → Within h world → time_of (dids h) ≤ t → NoneSince c close past h →
      Unchanged n (correct ∷ before) h

-- so it is of each other node that stays, at each Close that comes late enough after the place s; and the master's own clock is left alone, too
pub record TakesRounds (long t : ℕ) (stays : ℕ → Bool) (c : ℕ) (s world : List Line) : Type 0 where
  pub each : (close : Line) (past : List Line) (r : LateClose long t c s close past world) → close.did.step.at + long < t → (n : ℕ) → stays n ≡ true →
      (n == c) ≡ false → TakesRound long t c n s close past world
  pub own : (close : Line) (past : List Line) (r : LateClose long t c s close past world) (h : List Line) → Within (close ∷ past) h → Within h world →
      time_of (dids h) ≤ t → NoneSince c close past h → UnchangedBut c close past h

-- in a possible run that is calm after the place s, of nodes with one port each on one network that follow node c, which has all in its table, and posts no
-- SETTIME and takes no date; each node is looked at within SLACK, datagrams are delivered in time, none is forged or older than 30 s, and clocks stay in
-- their range
abbrev pub RunsTakeRounds : Type 0
RunsTakeRounds = (header : HeaderValue) (setting : Setting) (events : List Event) (late long t : ℕ) (stays : ℕ → Bool) (c : ℕ) (s : List Line) →
    SetBy header setting → Possible header events → Attended late (run header events) → late ≤ SLACK → Told late setting t c (run header events) →
    OneWire header setting stays → stays c ≡ true → Within s (run header events) → Calm long stays s (run header events) →
    Delivered setting long t stays s (run header events) → IsSwift setting long → Honest (run header events) → Life (run header events) →
    FollowUntil stays c t s (run header events) → InTable stays c t s (run header events) → SetsNone c s (run header events) →
    Undated c s (run header events) → KeepsRange s (run header events) → TakesRounds long t stays c s (run header events)

-- by any clocks
abbrev pub ClockedRunsTakeRounds : Type 0
ClockedRunsTakeRounds =
    (clocks : Clocks) (header : HeaderValue) (setting : Setting) (events : List Event) (late long t : ℕ) (stays : ℕ → Bool) (c : ℕ) (s : List Line) →
    SetByClocks clocks header setting → PossibleBy clocks header events → Attended late (run_by clocks header events) → late ≤ SLACK →
    Told late setting t c (run_by clocks header events) → OneWire header setting stays → stays c ≡ true → Within s (run_by clocks header events) →
    Calm long stays s (run_by clocks header events) → Delivered setting long t stays s (run_by clocks header events) → IsSwift setting long →
    Honest (run_by clocks header events) → Life (run_by clocks header events) → FollowUntil stays c t s (run_by clocks header events) →
    InTable stays c t s (run_by clocks header events) → SetsNone c s (run_by clocks header events) → Undated c s (run_by clocks header events) →
    KeepsRange s (run_by clocks header events) → TakesRounds long t stays c s (run_by clocks header events)
