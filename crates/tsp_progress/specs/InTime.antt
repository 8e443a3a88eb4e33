-- What a port that is looked at in time does in time.
use Rattle.std.specs.Prelude.{◌≡◌, ◌≤◌, ◌⊎◌, ℕ, ◌+◌, ◌==◌, Bool, true, if◌then◌else◌, List, [], ◌∷◌, Some, is_some}
use Rattle.tsp_rules.specs.Values.{Boot, Arm, Alarm, Quiet, Window, Elect, Search, Round, Probe, CloseAlarm, ResolveAlarm, PeerId, Starting, Loose, Follow}
use Rattle.tsp_rules.specs.Values.{Candidate, Master, QUIET, WINDOW, PROBE, CLOSE, ROUND, ELECT_MIN, ELECT_SPREAD}
use Rattle.tsp_base.specs.Words.{Deed, Acts, Did, Line, Seen, Here, Elsewhere, armed, deadline, held, is_going, role, started, stood}
use Rattle.tsp_promises.specs.Setting.{Setting}
use Rattle.tsp_progress.specs.Watched.{AtBegins, AtEnd}

-- which of the eight an alarm is
abbrev pub alarm_number : Alarm → ℕ
alarm_number Quiet = 0
alarm_number Search = 1
alarm_number Elect = 2
alarm_number Window = 3
alarm_number Probe = 4
alarm_number CloseAlarm = 5
alarm_number ResolveAlarm = 6
alarm_number Round = 7

abbrev pub is_alarm : Alarm → Alarm → Bool
is_alarm a b = alarm_number a == alarm_number b

abbrev pub last_arm_after : Alarm → Deed → List Seen → List Seen → List Seen
last_arm_after a (Acts Boot) here was = []
last_arm_after a (Acts (Arm b at)) here was = if is_alarm a b then here else was
last_arm_after a _ here was = was

-- the place where the alarm was last armed since the boot; empty where it wasn't
abbrev pub last_arm : Alarm → List Seen → List Seen
last_arm a [] = []
last_arm a (Here d ∷ before) = last_arm_after a d.deed (Here d ∷ before) (last_arm a before)
last_arm a (Elsewhere d ∷ before) = last_arm a before

-- the alarm was last armed at most so many ticks before tick x
pub record ArmedWithin (alarm : Alarm) (long x : ℕ) (seen : List Seen) : Type 0 where
  pub arm : Did
  pub idle : List Seen
  pub last : last_arm alarm seen ≡ Here arm ∷ idle
  pub since : x ≤ arm.tick + long

-- the port changed its role at most so many ticks before tick x
pub record StoodWithin (long x : ℕ) (seen : List Seen) : Type 0 where
  pub start : Did
  pub idle : List Seen
  pub stood_is : stood seen ≡ Here start ∷ idle
  pub since : x ≤ start.tick + long

-- the last round began at most so many ticks before tick x
pub record StartedWithin (long x : ℕ) (seen : List Seen) : Type 0 where
  pub start : Did
  pub idle : List Seen
  pub started_is : started seen ≡ Here start ∷ idle
  pub since : x ≤ start.tick + long

-- how many ticks ahead an alarm is armed at most
abbrev pub longest : Alarm → ℕ
longest Quiet = QUIET
longest Search = WINDOW
longest Elect = ELECT_MIN + ELECT_SPREAD
longest Window = WINDOW
longest Probe = PROBE
longest CloseAlarm = CLOSE
longest ResolveAlarm = WINDOW
longest Round = ROUND

-- an alarm that is armed at tick x was armed at most as long before as it is ahead, and `late`
abbrev pub AlarmEnds : ℕ → ℕ → List Seen → Type 0
AlarmEnds late x seen = (a : Alarm) (at : ℕ) → deadline (armed seen) a ≡ Some at → ArmedWithin a (longest a + late) x seen

-- a port that became Starting at the boot is so for at most QUIET ticks (80 s) and `late`
abbrev pub StartEnds : ℕ → ℕ → List Seen → Type 0
StartEnds late x seen = role seen ≡ Starting → (start : Did) (idle : List Seen) → stood seen ≡ Here start ∷ idle → x ≤ (held seen).boot + (QUIET + late)

-- a candidate stood for election at most WINDOW ticks (5 s) and `late` ago
abbrev pub CandidatureEnds : ℕ → ℕ → List Seen → Type 0
CandidatureEnds late x seen = role seen ≡ Candidate → StoodWithin (WINDOW + late) x seen

-- a round that goes on began at most CLOSE ticks (8 s) and `late` ago
abbrev pub RoundCloses : ℕ → ℕ → List Seen → Type 0
RoundCloses late x seen = is_going seen ≡ true → StartedWithin (CLOSE + late) x seen

-- a master armed its Round at most ROUND ticks (240 s) and `late` ago: it won then, began a round or waited with one
abbrev pub RoundRecurs : ℕ → ℕ → List Seen → Type 0
RoundRecurs late x seen = role seen ≡ Master → ArmedWithin Round (ROUND + late) x seen

-- a resolution that goes on began at most WINDOW ticks (5 s) and `late` ago
abbrev pub ResolutionEnds : ℕ → ℕ → List Seen → Type 0
ResolutionEnds late x seen = is_some (armed seen).resolve ≡ true → ArmedWithin ResolveAlarm (WINDOW + late) x seen

-- a search that goes on began at most WINDOW ticks (5 s) and `late` ago
abbrev pub SearchEnds : ℕ → ℕ → List Seen → Type 0
SearchEnds late x seen = is_some (armed seen).search ≡ true → ArmedWithin Search (WINDOW + late) x seen

-- a follower armed its Elect at most ELECT_MIN + ELECT_SPREAD ticks (600 s) and `late` ago, that is, it heard its master then,
-- or backed a candidate
abbrev pub FollowerHears : ℕ → ℕ → List Seen → Type 0
FollowerHears late x seen = (p : PeerId) → role seen ≡ Follow p → ArmedWithin Elect (ELECT_MIN + ELECT_SPREAD + late) x seen

-- a port that is Loose began a search at most WINDOW ticks (5 s) and `late` ago, or armed its Elect at most
-- ELECT_MIN + ELECT_SPREAD ticks (600 s) and `late` ago
abbrev pub LooseSeeks : ℕ → ℕ → List Seen → Type 0
LooseSeeks late x seen = role seen ≡ Loose → ArmedWithin Search (WINDOW + late) x seen ⊎ ArmedWithin Elect (ELECT_MIN + ELECT_SPREAD + late) x seen

-- all of this
pub record InTime (late x : ℕ) (seen : List Seen) : Type 0 where
  pub alarm : AlarmEnds late x seen
  pub start : StartEnds late x seen
  pub candidature : CandidatureEnds late x seen
  pub round : RoundCloses late x seen
  pub rounds : RoundRecurs late x seen
  pub resolution : ResolutionEnds late x seen
  pub search : SearchEnds late x seen
  pub follower : FollowerHears late x seen
  pub loose : LooseSeeks late x seen

-- wherever a step begins, this is so of each port of its node
abbrev pub AllInTime : ℕ → List Line → Type 0
AllInTime late = AtBegins (InTime late)

-- it is so at node n after the whole history, which is told up to the true time t
abbrev pub EndsInTime : ℕ → Setting → ℕ → ℕ → List Line → Type 0
EndsInTime late = AtEnd (InTime late)
