-- All that is asked of a network whose clocks agree, together.
use Rattle.std.proofs.Common.{sym, subst, ◌≡◌, ◌≤◌, ℕ, Bool, false, List, ◌∷◌, length}
use Rattle.tsp_rules.specs.Values.{Event, SLACK}
use Rattle.tsp_base.specs.Words.{HeaderValue, Line, Within, first_port, is_shared}
use Rattle.tsp_promises.specs.{Fits.Fits, Fits.node_of, Setting.Setting}
use Rattle.tsp_run.specs.Clocked.{Clocks, PossibleBy, SetByClocks, run_by}
use Rattle.tsp_run.proofs.RunFits.{clocked_runs_fit}
use Rattle.tsp_progress.specs.{ByTable.ByTable, ByTable.node_in, Delivered.Delivered, FollowOn.Calm, FollowOn.FollowUntil, FollowOn.OneNetwork}
use Rattle.tsp_progress.specs.{InTable.InTable, InTable.KeepsRange, InTable.SetsNone, RunsWake.manner_of, SampledInTime.IsSwift, Wakes.AllWake, Wakes.Woken}
use Rattle.tsp_progress.specs.{Watched.Attended, Watched.Told}
use Rattle.tsp_progress.proofs.{OnePortProof.clocked_runs_use_one_port, RunWakes.clocked_runs_wake, TableProof.clocked_runs_by_table}

pub record Tended (clocks : Clocks) (header : HeaderValue) (setting : Setting) (late long t : ℕ) (stays : ℕ → Bool) (c : ℕ) (s world : List Line) : Type 0 where
  pub set : SetByClocks clocks header setting
  pub table : ByTable header world
  pub fits : Fits setting world
  pub woken : Woken (manner_of header) world
  pub wakes : AllWake (manner_of header) world
  pub attended : Attended late world
  pub slack : late ≤ SLACK
  pub told : Told late setting t c world
  pub one : OneNetwork header setting stays c
  pub s_in : Within s world
  pub calm : Calm long stays s world
  pub delivered : Delivered setting long t stays s world
  pub swift : IsSwift setting long
  pub follow : FollowUntil stays c t s world
  pub members : InTable stays c t s world
  pub sets : SetsNone c s world
  pub range : KeepsRange s world
  -- nodes with one port use it alone
  pub single : (l : Line) (older : List Line) → Within (l ∷ older) world → length (node_in header (node_of l)).ports ≡ 1 → is_shared l.did.deed ≡ false →
      l.port ≡ first_port

pub on_first : {clocks : Clocks} {header : HeaderValue} {setting : Setting} {late long t : ℕ} {stays : ℕ → Bool} {c : ℕ} {s world : List Line} →
    Tended clocks header setting late long t stays c s world → (l : Line) (older : List Line) → Within (l ∷ older) world → node_of l ≡ c →
    is_shared l.did.deed ≡ false → l.port ≡ first_port
on_first {header = header} a l older place node unshared = a.single l older place
    (subst (λ k. length (node_in header k).ports ≡ 1) (sym node) a.one.single) unshared

pub all_asked : (clocks : Clocks) (header : HeaderValue) (setting : Setting) (events : List Event) (late long t : ℕ) (stays : ℕ → Bool) (c : ℕ)
    (s : List Line) → SetByClocks clocks header setting → PossibleBy clocks header events → Attended late (run_by clocks header events) → late ≤ SLACK →
    Told late setting t c (run_by clocks header events) → OneNetwork header setting stays c → Within s (run_by clocks header events) →
    Calm long stays s (run_by clocks header events) → Delivered setting long t stays s (run_by clocks header events) → IsSwift setting long →
    FollowUntil stays c t s (run_by clocks header events) → InTable stays c t s (run_by clocks header events) →
    SetsNone c s (run_by clocks header events) → KeepsRange s (run_by clocks header events) →
    Tended clocks header setting late long t stays c s (run_by clocks header events)
all_asked clocks header setting events late long t stays c s set possible attended slack told one s-in calm delivered swift follow members sets range =
    let w = clocked_runs_wake clocks header events in
    record {
      set = set;
      table = clocked_runs_by_table clocks header events;
      fits = (clocked_runs_fit clocks header setting events set possible).0;
      woken = w.0;
      wakes = w.1;
      attended = attended;
      slack = slack;
      told = told;
      one = one;
      s_in = s-in;
      calm = calm;
      delivered = delivered;
      swift = swift;
      follow = follow;
      members = members;
      sets = sets;
      range = range;
      single = clocked_runs_use_one_port clocks header setting events set possible;
    }
