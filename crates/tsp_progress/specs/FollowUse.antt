-- A network that follows its master on, and networks in which that ends.
use Rattle.std.specs.Prelude.{◌≡◌, ◌<◌, ℕ, zero, suc, ◌+◌, Bool, true, false, List, [], ◌∷◌}
use Rattle.tsp_rules.specs.Values.{Arm, Become, Boot, BootAt, Bytes, Elect, Event, Follow, Loose, Stranger, Take, Turn, Candidate, Starting}
use Rattle.tsp_base.specs.Words.{Acts, Begins, Line, dids, first_port, peer_of, time_of}
use Rattle.tsp_promises.specs.Setting.{Setting}
use Rattle.tsp_run.specs.{Ranges.Accepted, Refusals.Valid, Run.run, Setting.SetBy}
use Rattle.tsp_progress.specs.{Delivered.Delivered, OneUse.two_may, SampledUse.all_lost, SampledUse.until_corrects, TableUse.until_set}
use Rattle.tsp_progress.specs.FollowOn.{Calm, FollowUntil, IsMild, OneNetwork, role_of, settled_after}
use Rattle.tsp_progress.specs.{Needed.does_at, RolesLast.RolesLast, Watched.Attended, Watched.Told}

-- both nodes stay
abbrev pub two_stay : ℕ → Bool
two_stay zero = true
two_stay (suc zero) = true
two_stay (suc (suc n)) = false

-- b follows a since 390.02 s, is measured and corrected, and acknowledges that: 248 s after it was set
abbrev pub follows_long : List Event
follows_long = Take 638020000 21 ∷ Take 638010000 20 ∷ until_corrects

-- after b was set: all that a sends is lost, until b's Elect rings
abbrev pub hears_nothing : List Event
hears_nothing = Turn 690040000 1 ∷ all_lost

-- nobody looks at a
abbrev pub looks_away : List Event
looks_away = Turn 690040000 1 ∷ until_set

-- b boots
abbrev pub boots_again : List Event
boots_again = BootAt 400000000 1 0 ∷ until_set

-- somebody outside sends b a TEST, 310 s after its boot
abbrev pub test_octets : List ℕ
test_octets = 21 ∷ 1 ∷ 0 ∷ 1 ∷ 0 ∷ 0 ∷ 0 ∷ 0 ∷ 0 ∷ 0 ∷ 0 ∷ 0 ∷ 0 ∷ []

abbrev pub is_tested : List Event
is_tested = Bytes 620000000 1 first_port Stranger test_octets ∷ until_set

-- each datagram of the next round takes 68.02 s, so that b's Elect rings before a's call comes
abbrev pub calls_late : List Event
calls_late = Turn 878000000 0 ∷ Turn 873000000 0 ∷ Turn 872000000 0 ∷ Turn 871000000 0 ∷ Turn 870000000 0 ∷ follows_long

abbrev pub stands_before : List Event
stands_before = Turn 938010000 1 ∷ calls_late

-- a port that leaves its master for nothing
abbrev pub leaves_at_once : List Line
leaves_at_once = does_at 10 (Acts (Become Loose)) ∷ does_at 10 Begins ∷ does_at 5 (Acts (Arm Elect 300000005)) ∷
    does_at 5 (Acts (Become (Follow (peer_of 1)))) ∷ does_at 5 Begins ∷ does_at 0 (Acts Boot) ∷ does_at 0 Begins ∷ []

pub record FollowUse : Type 0 where
  -- in this run all that is asked for holds, and b follows a for longer than it must be known to
  pub accepted : Accepted two_may follows_long
  pub attended : Attended 0 (run two_may follows_long)
  pub told : (setting : Setting) → SetBy two_may setting → Told 0 setting 638020000 0 (run two_may follows_long)
  pub one : (setting : Setting) → SetBy two_may setting → OneNetwork two_may setting two_stay 0
  pub calm : Calm 10000 two_stay (run two_may until_set) (run two_may follows_long)
  pub delivered : (setting : Setting) → SetBy two_may setting →
      Delivered setting 10000 638020000 two_stay (run two_may until_set) (run two_may follows_long)
  pub mild : IsMild 10000
  pub settled : time_of (dids (run two_may until_set)) + settled_after 10000 < 638020000
  pub follows : FollowUntil two_stay 0 638020000 (run two_may until_set) (run two_may follows_long)
  -- where a's calls are lost, or nobody looks at a, b stands for election 300 s after it was set
  pub lost_valid : Valid two_may hears_nothing
  pub lost : role_of 1 (run two_may hears_nothing) ≡ Candidate
  pub away_valid : Valid two_may looks_away
  pub away_attended : Attended 0 (run two_may looks_away)
  pub away_calm : Calm 10000 two_stay (run two_may until_set) (run two_may looks_away)
  pub away : role_of 1 (run two_may looks_away) ≡ Candidate
  -- where it boots, it is Starting
  pub booted_valid : Valid two_may boots_again
  pub booted : role_of 1 (run two_may boots_again) ≡ Starting
  -- and where a TEST comes from outside, it stands at once
  pub tested_valid : Valid two_may is_tested
  pub tested : role_of 1 (run two_may is_tested) ≡ Candidate
  -- where datagrams may take longer than 58 s, all else holds of a run in which b stands
  pub late_accepted : Accepted two_may stands_before
  pub late_attended : Attended 0 (run two_may stands_before)
  pub late_told : (setting : Setting) → SetBy two_may setting → Told 0 setting 938010000 0 (run two_may stands_before)
  pub late_calm : Calm 68020000 two_stay (run two_may until_set) (run two_may stands_before)
  pub late_delivered : (setting : Setting) → SetBy two_may setting →
      Delivered setting 68020000 938010000 two_stay (run two_may until_set) (run two_may stands_before)
  pub late_settled : time_of (dids (run two_may until_set)) + settled_after 68020000 < 878000000
  pub late_follows : FollowUntil two_stay 0 878000000 (run two_may until_set) (run two_may calls_late)
  pub late_mild : ¬ IsMild 68020000
  pub late : role_of 1 (run two_may stands_before) ≡ Candidate
  -- a history in which a port leaves its master for nothing is that of no run
  pub sudden : ¬ RolesLast leaves_at_once
