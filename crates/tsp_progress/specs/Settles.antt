-- A calm network settles: one of its nodes leads, and all others follow it, for ever.
use Rattle.std.specs.Prelude.{◌≡◌, ◌≤◌, ℕ, ◌+◌, ◌*◌, Bool, true, false, List, length}
use Rattle.tsp_rules.specs.Values.{Event, ROUND, SLACK, WINDOW}
use Rattle.tsp_base.specs.Words.{HeaderValue, Line, Within, dids, time_of}
use Rattle.tsp_promises.specs.{Premises.Honest, Premises.Life, Setting.Setting}
use Rattle.tsp_run.specs.Clocked.{Clocks, PossibleBy, SetByClocks, run_by}
use Rattle.tsp_run.specs.{Possible.Possible, Run.run, Setting.SetBy}
use Rattle.tsp_progress.specs.{AckedInTime.IsPrompt, FollowOn.AllFollow, Gather.gathered_after, Gather.others_of}
use Rattle.tsp_progress.specs.Headless.{AllUp, Fair, Foremost, delay_of, longest_headless}

-- how long it takes at most where the foremost node's delay is d: 513 s, four times `long`, the longest stretch without a master, and until n others follow
abbrev pub settles_after : ℕ → ℕ → ℕ → ℕ
settles_after long d n = 2 * ROUND + 8 * SLACK + 5 * WINDOW + 4 * long + 2 + longest_headless long d + gathered_after long n

-- one node that stays leads, and all others that stay follow it: at each place so long after the place s, as long as the true time is at most t
pub record Settles (setting : Setting) (long t : ℕ) (stays : ℕ → Bool) (d : ℕ) (s world : List Line) : Type 0 where
  pub leader : ℕ
  pub there : stays leader ≡ true
  pub all : (h : List Line) → Within h world → time_of (dids s) + settles_after long d (length (others_of setting stays leader)) ≤ time_of (dids h) →
      time_of (dids h) ≤ t → AllFollow stays leader h

-- in a possible run, in elections that aren't strict, of such a network, if one of its nodes is the foremost at the place s, no node that stays is Starting
-- from then on, datagrams are delivered promptly, none lives longer than 30 s, and none is forged
abbrev pub RunsSettle : Type 0
RunsSettle = (header : HeaderValue) (setting : Setting) (events : List Event) (late long t : ℕ) (stays : ℕ → Bool) (c : ℕ) (s : List Line) →
    SetBy header setting → Possible header events → header.strict ≡ false → Fair header setting late long t stays s (run header events) →
    Within s (run header events) → AllUp stays s (run header events) → Foremost header setting late long stays c s → IsPrompt setting long →
    Honest (run header events) → Life (run header events) → Settles setting long t stays (delay_of c s) s (run header events)

-- by any clocks
abbrev pub ClockedRunsSettle : Type 0
ClockedRunsSettle = (clocks : Clocks) (header : HeaderValue) (setting : Setting) (events : List Event) (late long t : ℕ) (stays : ℕ → Bool) (c : ℕ)
    (s : List Line) → SetByClocks clocks header setting → PossibleBy clocks header events → header.strict ≡ false →
    Fair header setting late long t stays s (run_by clocks header events) → Within s (run_by clocks header events) →
    AllUp stays s (run_by clocks header events) → Foremost header setting late long stays c s → IsPrompt setting long →
    Honest (run_by clocks header events) → Life (run_by clocks header events) →
    Settles setting long t stays (delay_of c s) s (run_by clocks header events)
