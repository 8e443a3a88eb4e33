-- Who leads alone in a calm network leads on, and nobody else wins.
use Rattle.std.specs.Prelude.{◌≤◌, ℕ, ◌+◌, ◌*◌, Bool, List, length}
use Rattle.tsp_rules.specs.Values.{Event, SLACK, WINDOW}
use Rattle.tsp_base.specs.Words.{HeaderValue, Line, Within, dids, time_of}
use Rattle.tsp_promises.specs.{Premises.Honest, Premises.Life, Setting.Setting}
use Rattle.tsp_run.specs.Clocked.{Clocks, PossibleBy, SetByClocks, run_by}
use Rattle.tsp_run.specs.{Possible.Possible, Run.run, Setting.SetBy}
use Rattle.tsp_progress.specs.{AckedInTime.IsPrompt, Delivered.Delivered, FollowOn.AllFollow, FollowOn.Calm, FollowOn.OneNetwork}
use Rattle.tsp_progress.specs.Gather.{AllTold, AllAwake, LeadUntil, gathered_after, others_of}
use Rattle.tsp_progress.specs.{Watched.Attended}

-- how long after datagrams are delivered what they do to a candidature is seen: 15 s
abbrev pub candidatures_after : ℕ
candidatures_after = 3 * WINDOW

-- if c alone is master for `long` from a place so long after the place s on, it leads alone as long as the true time is at most t
abbrev pub LeadOnly : ℕ → ℕ → (ℕ → Bool) → ℕ → List Line → List Line → Type 0
LeadOnly long t stays c s world = (h : List Line) → Within h world → Within s h → time_of (dids s) + candidatures_after ≤ time_of (dids h) →
    LeadUntil stays c (time_of (dids h) + long) h world → LeadUntil stays c t h world

-- in a possible run that is calm after the place s, at which no node is in its quiet time, in which each node is looked at within SLACK, datagrams are
-- delivered in time, none lives longer than 30 s, and none is forged
abbrev pub RunsLeadOnly : Type 0
RunsLeadOnly = (header : HeaderValue) (setting : Setting) (events : List Event) (late long t : ℕ) (stays : ℕ → Bool) (c : ℕ) (s : List Line) →
    SetBy header setting → Possible header events → Attended late (run header events) → late ≤ SLACK → OneNetwork header setting stays c →
    Calm long stays s (run header events) → Delivered setting long t stays s (run header events) → IsPrompt setting long → AllAwake stays s →
    Honest (run header events) → Life (run header events) → LeadOnly long t stays c s (run header events)

-- by any clocks
abbrev pub ClockedRunsLeadOnly : Type 0
ClockedRunsLeadOnly =
    (clocks : Clocks) (header : HeaderValue) (setting : Setting) (events : List Event) (late long t : ℕ) (stays : ℕ → Bool) (c : ℕ) (s : List Line) →
    SetByClocks clocks header setting → PossibleBy clocks header events → Attended late (run_by clocks header events) → late ≤ SLACK →
    OneNetwork header setting stays c → Calm long stays s (run_by clocks header events) → Delivered setting long t stays s (run_by clocks header events) →
    IsPrompt setting long → AllAwake stays s → Honest (run_by clocks header events) → Life (run_by clocks header events) →
    LeadOnly long t stays c s (run_by clocks header events)

-- so all come to follow c, and do so on: from `gathered_after` that place on
abbrev pub ComeTo : Setting → ℕ → ℕ → (ℕ → Bool) → ℕ → List Line → List Line → Type 0
ComeTo setting long t stays c s world = (h : List Line) → Within h world → Within s h → time_of (dids s) + candidatures_after ≤ time_of (dids h) →
    LeadUntil stays c (time_of (dids h) + long) h world → (g : List Line) → Within g world → Within h g →
    time_of (dids h) + gathered_after long (length (others_of setting stays c)) ≤ time_of (dids g) → time_of (dids g) ≤ t → AllFollow stays c g

-- in such a run, which is told up to the true time t
abbrev pub RunsComeToLeader : Type 0
RunsComeToLeader = (header : HeaderValue) (setting : Setting) (events : List Event) (late long t : ℕ) (stays : ℕ → Bool) (c : ℕ) (s : List Line) →
    SetBy header setting → Possible header events → Attended late (run header events) → late ≤ SLACK → AllTold late setting t stays (run header events) →
    OneNetwork header setting stays c → Calm long stays s (run header events) → Delivered setting long t stays s (run header events) →
    IsPrompt setting long → AllAwake stays s → Honest (run header events) → Life (run header events) → ComeTo setting long t stays c s (run header events)

-- by any clocks
abbrev pub ClockedRunsComeToLeader : Type 0
ClockedRunsComeToLeader =
    (clocks : Clocks) (header : HeaderValue) (setting : Setting) (events : List Event) (late long t : ℕ) (stays : ℕ → Bool) (c : ℕ) (s : List Line) →
    SetByClocks clocks header setting → PossibleBy clocks header events → Attended late (run_by clocks header events) → late ≤ SLACK →
    AllTold late setting t stays (run_by clocks header events) → OneNetwork header setting stays c → Calm long stays s (run_by clocks header events) →
    Delivered setting long t stays s (run_by clocks header events) → IsPrompt setting long → AllAwake stays s → Honest (run_by clocks header events) →
    Life (run_by clocks header events) → ComeTo setting long t stays c s (run_by clocks header events)
