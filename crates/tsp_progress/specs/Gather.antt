-- All nodes of a network in which one leads, and no other does, come to follow it, one by one at least, and do so on.
use Rattle.std.specs.Prelude.{◌≡◌, ◌≢◌, ◌≤◌, ℕ, ◌+◌, ◌*◌, ◌==◌, ◌&&◌, not, Bool, true, false, List, filter, length}
use Rattle.tsp_rules.specs.Values.{PeerId, Master, Event, ELECT_MIN, ELECT_SPREAD, ROUND, SLACK, WINDOW}
use Rattle.tsp_rules.specs.Guards.{is_starting_role}
use Rattle.tsp_base.specs.Words.{HeaderValue, Line, Within, dids, first_port, time_of}
use Rattle.tsp_promises.specs.{Setting.Setting}
use Rattle.tsp_run.specs.Clocked.{Clocks, PossibleBy, SetByClocks, run_by}
use Rattle.tsp_run.specs.{Possible.Possible, Run.run, Setting.SetBy}
use Rattle.tsp_progress.specs.{Delivered.Delivered, FollowOn.AllFollow, FollowOn.Calm, FollowOn.IsMild, FollowOn.OneNetwork, FollowOn.role_of}
use Rattle.tsp_progress.specs.{Watched.Attended, Watched.Told}

-- there node c is master, and no other node that stays is
pub record LeadsOnly (stays : ℕ → Bool) (c : ℕ) (h : List Line) : Type 0 where
  pub leads : role_of c h ≡ Master
  pub alone : (n : ℕ) → stays n ≡ true → (n == c) ≡ false → role_of n h ≢ Master

-- so it is from the place s on, as long as the true time is at most t
abbrev pub LeadUntil : (ℕ → Bool) → ℕ → ℕ → List Line → List Line → Type 0
LeadUntil stays c t s world = (h : List Line) → Within h world → Within s h → time_of (dids h) ≤ t → LeadsOnly stays c h

-- it is told up to the true time t that each node that stays was looked at
abbrev pub AllTold : ℕ → Setting → ℕ → (ℕ → Bool) → List Line → Type 0
AllTold late setting t stays world = (n : ℕ) → stays n ≡ true → Told late setting t n world

-- at the place s no node that stays is in its quiet time
abbrev pub AllAwake : (ℕ → Bool) → List Line → Type 0
AllAwake stays s = (n : ℕ) → stays n ≡ true → is_starting_role (role_of n s) ≡ false

-- the other members of its network that stay
abbrev pub others_of : Setting → (ℕ → Bool) → ℕ → List PeerId
others_of setting stays c = filter (λ (p : PeerId). stays p.0 && not (p.0 == c)) (setting.members (setting.net c first_port))

-- how long it takes at most until one follower more has left another master: its Elect, and a candidature, 609 s and `long`
abbrev pub leaves_after : ℕ → ℕ
leaves_after long = ELECT_MIN + ELECT_SPREAD + WINDOW + 4 * SLACK + long + 2

-- so long after the place s all n others follow: that for each of them, and the calls of two rounds, 484 s and three times `long`
abbrev pub gathered_after : ℕ → ℕ → ℕ
gathered_after long n = n * leaves_after long + (2 * ROUND + 4 * SLACK + 3 * long + 3)

-- from then on all follow
abbrev pub Gather : Setting → ℕ → ℕ → (ℕ → Bool) → ℕ → List Line → List Line → Type 0
Gather setting long t stays c s world = (h : List Line) → Within h world → Within s h →
    time_of (dids s) + gathered_after long (length (others_of setting stays c)) ≤ time_of (dids h) → time_of (dids h) ≤ t → AllFollow stays c h

-- in a possible run that is calm after the place s, at which no node is in its quiet time, in which each node is looked at within SLACK, datagrams are
-- delivered in time, and node c leads and no other node does
abbrev pub RunsGather : Type 0
RunsGather = (header : HeaderValue) (setting : Setting) (events : List Event) (late long t : ℕ) (stays : ℕ → Bool) (c : ℕ) (s : List Line) →
    SetBy header setting → Possible header events → Attended late (run header events) → late ≤ SLACK → AllTold late setting t stays (run header events) →
    OneNetwork header setting stays c → Calm long stays s (run header events) → Delivered setting long t stays s (run header events) → IsMild long →
    AllAwake stays s → LeadUntil stays c t s (run header events) → Gather setting long t stays c s (run header events)

-- by any clocks
abbrev pub ClockedRunsGather : Type 0
ClockedRunsGather =
    (clocks : Clocks) (header : HeaderValue) (setting : Setting) (events : List Event) (late long t : ℕ) (stays : ℕ → Bool) (c : ℕ) (s : List Line) →
    SetByClocks clocks header setting → PossibleBy clocks header events → Attended late (run_by clocks header events) → late ≤ SLACK →
    AllTold late setting t stays (run_by clocks header events) → OneNetwork header setting stays c → Calm long stays s (run_by clocks header events) →
    Delivered setting long t stays s (run_by clocks header events) → IsMild long → AllAwake stays s → LeadUntil stays c t s (run_by clocks header events) →
    Gather setting long t stays c s (run_by clocks header events)
