-- What a node is told reaches it in time.
use Rattle.std.proofs.Common.{ap, subst, ◌≡◌, ℕ, Bool, false, List, refl}
use Rattle.std.proofs.lemmas.Bool.{and_parts}
use Rattle.tsp_rules.specs.Values.{Message, PeerId}
use Rattle.tsp_rules.specs.{Guards.is_starting_role, MasterRows.may_join}
use Rattle.tsp_base.specs.Words.{HeaderValue, Line, MessageValue, of, peer_of}
use Rattle.tsp_promises.specs.{Fits.node_of, Setting.Setting}
use Rattle.tsp_run.specs.Clocked.{Clocks, SetByClocks, clocks_of, run_by}
use Rattle.tsp_run.proofs.OwnClocks.{runs_by_own_clocks, set_own}
use Rattle.tsp_progress.specs.{ByTable.ByTable, ByTable.node_in, Delivered.Arrives, Delivered.Delivered, SentAway.past_there}
use Rattle.tsp_progress.specs.Heeds.{Hears, is_master_role, role_before}
use Rattle.tsp_progress.specs.ReachesInTime.{ClockedRunsReach, ReachesInTime, RunsReach, Tells}
use Rattle.tsp_progress.proofs.AnswersProof.{hears_there, master_awake}
use Rattle.tsp_progress.proofs.{HeedsProof.all_heed, SentAwayProof.lone_awake, TableProof.clocked_runs_by_table}

module _ {clocks : Clocks} {header : HeaderValue} {setting : Setting} (set : SetByClocks clocks header setting) (world : List Line)
    (table : ByTable header world) (long t : ℕ) (stays : ℕ → Bool) (s : List Line) (delivered : Delivered setting long t stays s world) where
  module _ (l : Line) (older : List Line) (p : PeerId) (m : MessageValue) (tells : Tells setting long t stays s l older world p m) where
    arrival : Arrives setting long l older world p (Message m)
    arrival = delivered l older p (Message m) tells.posts tells.since tells.there tells.early

    hears : is_starting_role (role_before (node_in header p.0) arrival.line (of p.0 arrival.before)) ≡ false →
        Hears (node_in header p.0) (of p.0 world) arrival.line (of p.0 arrival.before) (peer_of (node_of l)) m
    hears awake = hears_there set world table long t stays s delivered l older p m tells.posts arrival awake

  pub reaches_in_time : ReachesInTime header setting long t stays s world
  reaches_in_time = record {
    masterup = λ l older p m tells kind. let a = arrival l older p m tells in record {
      arrives = a;
      does = λ alone. (all_heed header world table p.0).follows.masterup a.line (of p.0 a.before) (peer_of (node_of l)) m
          (hears l older p m tells (lone_awake (role_before (node_in header p.0) a.line (of p.0 a.before)) alone)) kind alone refl;
    };
    quit = λ l older p m tells kind. let a = arrival l older p m tells in record {
      arrives = a;
      does = λ alone. (all_heed header world table p.0).follows.quit a.line (of p.0 a.before) (peer_of (node_of l)) m
          (hears l older p m tells (lone_awake (role_before (node_in header p.0) a.line (of p.0 a.before)) alone)) kind alone refl;
    };
    slaveup = λ l older p m tells kind. let a = arrival l older p m tells in record {
      arrives = a;
      does = λ may.
          let r = role_before (node_in header p.0) a.line (of p.0 a.before) in
          let both = and_parts (is_master_role r) (may_join (peer_of (node_of l)) m.number a.line.did.tick (past_there header p.0 a.line a.before)) may in
          (all_heed header world table p.0).serves.joins a.line (of p.0 a.before) (peer_of (node_of l)) m
          (hears l older p m tells (master_awake set world table long t stays s delivered r both.0)) kind both.0 both.1;
    };
    adjtime = λ l older p m tells kind. let a = arrival l older p m tells in record {
      arrives = a;
      does = λ follows steer takes. (all_heed header world table p.0).obeys.adjtime a.line (of p.0 a.before) (peer_of (node_of l)) m
          (hears l older p m tells (ap is_starting_role follows)) kind follows steer takes;
    };
    settime = λ l older p m tells kind. let a = arrival l older p m tells in record {
      arrives = a;
      does = λ follows steer takes. (all_heed header world table p.0).obeys.settime a.line (of p.0 a.before) (peer_of (node_of l)) m
          (hears l older p m tells (ap is_starting_role follows)) kind follows steer takes;
    };
  }

pub clocked_runs_reach : ClockedRunsReach
clocked_runs_reach clocks header setting events long t stays s set delivered =
    reaches_in_time set (run_by clocks header events) (clocked_runs_by_table clocks header events) long t stays s delivered

pub runs_reach : RunsReach
runs_reach header setting events long t stays s set = subst (λ h. Delivered setting long t stays s h → ReachesInTime header setting long t stays s h)
    (runs_by_own_clocks header events) (clocked_runs_reach (clocks_of header) header setting events long t stays s (set_own header setting set))
