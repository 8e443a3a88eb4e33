-- In a network that follows its master, a follower's clock takes what a round corrects it by, and agrees with the master's then.
use Rattle.std.specs.Prelude.{◌≡◌, ◌≤◌, ◌≤ℤ◌, ℕ, ◌+ℤ◌, ℤ, pos, Bool, true, List, ◌∷◌}
use Rattle.tsp_rules.specs.Values.{AdjTime, Event, Message, PeerId}
use Rattle.tsp_rules.specs.SlaveRows.{takes_amount}
use Rattle.tsp_base.specs.Words.{HeaderValue, Line, MessageValue, Step, Within, dids, first_port, time_in, time_of}
use Rattle.tsp_promises.specs.{Agreed.FromRound, Agreed.Unchanged, Agreed.UnchangedBut, ClockAt.ClocksWithin, ClockAt.drifted, Fits.node_of}
use Rattle.tsp_promises.specs.{Premises.Honest, Premises.Life, Setting.Setting}
use Rattle.tsp_run.specs.Clocked.{Clocks, PossibleBy, SetByClocks, run_by}
use Rattle.tsp_run.specs.{Possible.Possible, Run.run, Setting.SetBy}
use Rattle.tsp_progress.specs.{Delivered.Arrives, Delivered.Delivered, FollowOn.FollowUntil, FollowOn.OneNetwork, ReachesInTime.Tells, SentAway.past_there}

-- at the line l, after the place s, node c posts ADJTIME m on its first port to p, another member that stays; the true time t is later by more than `long`
pub record Adjusts (setting : Setting) (long t : ℕ) (stays : ℕ → Bool) (c : ℕ) (s : List Line) (l : Line) (older world : List Line) (p : PeerId)
    (m : MessageValue) : Type 0 where
  pub tells : Tells setting long t stays s l older world p m
  pub node : node_of l ≡ c
  pub port : l.port ≡ first_port
  pub kind : m.kind ≡ AdjTime

-- in this step node n moves its clock by an ADJTIME that a Close of c began, which rests on a reading with an error of at most 4.5 s; from then on, as
-- long as neither clock is changed otherwise, both agree within that error and the drift since the reading
pub record MovedIn (setting : Setting) (c n : ℕ) (step : Step) (world : List Line) : Type 0 where
  pub correct : Line
  pub past : List Line
  pub place : Within (correct ∷ past) world
  pub node : node_of correct ≡ n
  pub same : correct.did.step ≡ step
  pub close : Line
  pub before : List Line
  pub reading : Line
  pub older : List Line
  pub err : ℤ
  pub rests : FromRound c close before correct past reading older err
  pub bounded : err ≤ℤ pos 4500000
  pub agrees : (h : List Line) (time : ℕ) → Within h world → time_of (dids h) ≤ time → Unchanged n (correct ∷ past) h → UnchangedBut c close before h →
      ClocksWithin setting h time n c (err +ℤ pos (drifted setting time reading))

-- p takes it at most `long` later; if its number is the clock's ticket then, the last correction is old enough and the clock stays in its range, it does so
pub record Obeyed (header : HeaderValue) (setting : Setting) (long c : ℕ) (l : Line) (older world : List Line) (p : PeerId) (m : MessageValue) : Type 0 where
  pub arrives : Arrives setting long l older world p (Message m)
  pub moves : takes_amount m.number (time_in m.body) arrives.line.did.tick (past_there header p.0 arrives.line arrives.before) ≡ true →
      MovedIn setting c p.0 arrives.line.did.step world

-- so it is of each ADJTIME, as long as all follow c
abbrev pub AllObey : HeaderValue → Setting → ℕ → ℕ → (ℕ → Bool) → ℕ → List Line → List Line → Type 0
AllObey header setting long t stays c s world = (l : Line) (older : List Line) (p : PeerId) (m : MessageValue) →
    Adjusts setting long t stays c s l older world p m → Obeyed header setting long c l older world p m

-- in a possible run in which datagrams are delivered in time, none is forged, and none is older than 30 s
abbrev pub RunsObey : Type 0
RunsObey = (header : HeaderValue) (setting : Setting) (events : List Event) (long t : ℕ) (stays : ℕ → Bool) (c : ℕ) (s : List Line) →
    SetBy header setting → Possible header events → OneNetwork header setting stays c → Delivered setting long t stays s (run header events) →
    Honest (run header events) → Life (run header events) → FollowUntil stays c t s (run header events) →
    AllObey header setting long t stays c s (run header events)

-- by any clocks
abbrev pub ClockedRunsObey : Type 0
ClockedRunsObey =
    (clocks : Clocks) (header : HeaderValue) (setting : Setting) (events : List Event) (long t : ℕ) (stays : ℕ → Bool) (c : ℕ) (s : List Line) →
    SetByClocks clocks header setting → PossibleBy clocks header events → OneNetwork header setting stays c →
    Delivered setting long t stays s (run_by clocks header events) → Honest (run_by clocks header events) → Life (run_by clocks header events) →
    FollowUntil stays c t s (run_by clocks header events) → AllObey header setting long t stays c s (run_by clocks header events)
