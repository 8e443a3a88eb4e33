-- Who wins in a calm network in which nobody else leads leads on alone, and all come to follow it.
use Rattle.std.specs.Prelude.{◌≡◌, ◌≢◌, ◌≤◌, ◌<◌, ℕ, ◌+◌, ◌==◌, Bool, true, false, List, ◌∷◌, length}
use Rattle.tsp_rules.specs.Values.{Event, Master, SLACK}
use Rattle.tsp_base.specs.Words.{HeaderValue, Line, Within, dids, time_of}
use Rattle.tsp_promises.specs.{Premises.Honest, Premises.Life, Setting.Setting}
use Rattle.tsp_run.specs.Clocked.{Clocks, PossibleBy, SetByClocks, run_by}
use Rattle.tsp_run.specs.{Possible.Possible, Run.run, Setting.SetBy}
use Rattle.tsp_progress.specs.{AckedInTime.IsPrompt, Delivered.Delivered, FollowOn.AllFollow, FollowOn.Calm, FollowOn.OneNetwork, FollowOn.role_of}
use Rattle.tsp_progress.specs.Gather.{AllTold, AllAwake, LeadUntil, gathered_after, others_of}
use Rattle.tsp_progress.specs.{LeadOnly.candidatures_after, Watched.Attended}

-- there no node that stays is master but c, which may be
abbrev pub NoOther : (ℕ → Bool) → ℕ → List Line → Type 0
NoOther stays c h = (n : ℕ) → stays n ≡ true → (n == c) ≡ false → role_of n h ≢ Master

-- at the line l c is master, and no other node that stays has been since the place h, which is more than `long` before
pub record WinsAlone (long : ℕ) (stays : ℕ → Bool) (c : ℕ) (h : List Line) (l : Line) (older world : List Line) : Type 0 where
  pub place : Within (l ∷ older) world
  pub since : Within h older
  pub late : time_of (dids h) + long < l.did.step.at
  pub wins : role_of c (l ∷ older) ≡ Master
  pub alone : (g : List Line) → Within g (l ∷ older) → Within h g → NoOther stays c g

-- from such a line on, if the place h is so long after the place s, c leads alone as long as the true time is at most t
abbrev pub LeadFrom : ℕ → ℕ → (ℕ → Bool) → ℕ → List Line → List Line → Type 0
LeadFrom long t stays c s world = (h : List Line) (l : Line) (older : List Line) → Within s h →
    time_of (dids s) + candidatures_after ≤ time_of (dids h) → WinsAlone long stays c h l older world → LeadUntil stays c t (l ∷ older) world

-- in a possible run that is calm after the place s, at which no node is in its quiet time, in which each node is looked at within SLACK, datagrams are
-- delivered in time, none lives longer than 30 s, and none is forged
abbrev pub RunsLeadFromWin : Type 0
RunsLeadFromWin = (header : HeaderValue) (setting : Setting) (events : List Event) (late long t : ℕ) (stays : ℕ → Bool) (c : ℕ) (s : List Line) →
    SetBy header setting → Possible header events → Attended late (run header events) → late ≤ SLACK → OneNetwork header setting stays c →
    Calm long stays s (run header events) → Delivered setting long t stays s (run header events) → IsPrompt setting long → AllAwake stays s →
    Honest (run header events) → Life (run header events) → LeadFrom long t stays c s (run header events)

-- by any clocks
abbrev pub ClockedRunsLeadFromWin : Type 0
ClockedRunsLeadFromWin =
    (clocks : Clocks) (header : HeaderValue) (setting : Setting) (events : List Event) (late long t : ℕ) (stays : ℕ → Bool) (c : ℕ) (s : List Line) →
    SetByClocks clocks header setting → PossibleBy clocks header events → Attended late (run_by clocks header events) → late ≤ SLACK →
    OneNetwork header setting stays c → Calm long stays s (run_by clocks header events) → Delivered setting long t stays s (run_by clocks header events) →
    IsPrompt setting long → AllAwake stays s → Honest (run_by clocks header events) → Life (run_by clocks header events) →
    LeadFrom long t stays c s (run_by clocks header events)

-- so all come to follow c, and do so on: from `gathered_after` that line on
abbrev pub ComeToWinner : Setting → ℕ → ℕ → (ℕ → Bool) → ℕ → List Line → List Line → Type 0
ComeToWinner setting long t stays c s world = (h : List Line) (l : Line) (older : List Line) → Within s h →
    time_of (dids s) + candidatures_after ≤ time_of (dids h) → WinsAlone long stays c h l older world → (g : List Line) → Within g world →
    Within (l ∷ older) g → l.did.step.at + gathered_after long (length (others_of setting stays c)) ≤ time_of (dids g) → time_of (dids g) ≤ t →
    AllFollow stays c g

-- in such a run, which is told up to the true time t
abbrev pub RunsComeToWinner : Type 0
RunsComeToWinner = (header : HeaderValue) (setting : Setting) (events : List Event) (late long t : ℕ) (stays : ℕ → Bool) (c : ℕ) (s : List Line) →
    SetBy header setting → Possible header events → Attended late (run header events) → late ≤ SLACK → AllTold late setting t stays (run header events) →
    OneNetwork header setting stays c → Calm long stays s (run header events) → Delivered setting long t stays s (run header events) →
    IsPrompt setting long → AllAwake stays s → Honest (run header events) → Life (run header events) →
    ComeToWinner setting long t stays c s (run header events)

-- by any clocks
abbrev pub ClockedRunsComeToWinner : Type 0
ClockedRunsComeToWinner =
    (clocks : Clocks) (header : HeaderValue) (setting : Setting) (events : List Event) (late long t : ℕ) (stays : ℕ → Bool) (c : ℕ) (s : List Line) →
    SetByClocks clocks header setting → PossibleBy clocks header events → Attended late (run_by clocks header events) → late ≤ SLACK →
    AllTold late setting t stays (run_by clocks header events) → OneNetwork header setting stays c → Calm long stays s (run_by clocks header events) →
    Delivered setting long t stays s (run_by clocks header events) → IsPrompt setting long → AllAwake stays s → Honest (run_by clocks header events) →
    Life (run_by clocks header events) → ComeToWinner setting long t stays c s (run_by clocks header events)
