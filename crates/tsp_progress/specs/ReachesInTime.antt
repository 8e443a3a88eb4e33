-- What a node is told reaches it in time, and then it does at once what its role asks for.
use Rattle.std.specs.Prelude.{◌≡◌, ◌<◌, ℕ, ◌+◌, Bool, true, ◌&&◌, if◌then◌else◌, List, [], ◌∷◌}
use Rattle.tsp_rules.specs.Values.{Act, Post, Join, Quit, Ack, AdjTime, Follow, MasterUp, QuitKind, SetTime, SlaveUp, Message, Kind, PeerId, Peer, Event}
use Rattle.tsp_rules.specs.{GateRows.steers, Guards.target_at, MasterRows.may_join, SendRows.may_set, SlaveRows.takes_amount, SlaveRows.takes_value}
use Rattle.tsp_base.specs.Words.{HeaderValue, Line, MessageValue, Past, Within, of, peer_of, role, time_in, timed}
use Rattle.tsp_promises.specs.{Fits.node_of, Setting.Setting}
use Rattle.tsp_run.specs.Clocked.{Clocks, SetByClocks, run_by}
use Rattle.tsp_run.specs.{Run.run, Setting.SetBy}
use Rattle.tsp_progress.specs.{ByTable.before_line, ByTable.node_in}
use Rattle.tsp_progress.specs.{Delivered.Arrives, Delivered.Delivered, Delivered.PostsTo, SentAway.past_there}
use Rattle.tsp_progress.specs.Heeds.{DoesNext, arms_for_delay, follow_acts, has_no_master, is_master_role, moved_by, posts_bare, role_before, set_to}

-- at the line l, which is after the place s, its node posts message m to p, which stays; the true time t is later by more than `long`
pub record Tells (setting : Setting) (long t : ℕ) (stays : ℕ → Bool) (s : List Line) (l : Line) (older world : List Line) (p : PeerId) (m : MessageValue) : Type
    0
  where
    pub posts : PostsTo setting l older world p (Message m)
    pub since : Within s older
    pub there : stays p.0 ≡ true
    pub early : l.did.step.at + long < t

-- p takes it at most `long` later; if this is so of its port then, it does that next
pub record Reaches (header : HeaderValue) (setting : Setting) (long : ℕ) (l : Line) (older world : List Line) (p : PeerId) (m : MessageValue)
    (if_so : ℕ → Past → Bool) (acts : ℕ → Past → List Act) : Type 0 where
  pub arrives : Arrives setting long l older world p (Message m)
  pub does : if_so arrives.line.did.tick (past_there header p.0 arrives.line arrives.before) ≡ true →
      DoesNext (acts arrives.line.did.tick (past_there header p.0 arrives.line arrives.before)) arrives.line (of p.0 arrives.before) (of p.0 world)

-- so it is of each message of this kind
abbrev pub ReachesAs : Kind → (PeerId → MessageValue → ℕ → Past → Bool) → (PeerId → MessageValue → ℕ → Past → List Act) → HeaderValue → Setting → ℕ → ℕ →
    (ℕ → Bool) → List Line → List Line → Type 0
ReachesAs kind if_so acts header setting long t stays s world = (l : Line) (older : List Line) (p : PeerId) (m : MessageValue) →
    Tells setting long t stays s l older world p m → m.kind ≡ kind →
    Reaches header setting long l older world p m (if_so (peer_of (node_of l)) m) (acts (peer_of (node_of l)) m)

-- p takes a correction at most `long` later; if it follows the sender then, steers its node's clock and may take it, it does that next
pub record Corrects (header : HeaderValue) (setting : Setting) (long : ℕ) (l : Line) (older world : List Line) (p : PeerId) (m : MessageValue)
    (takes : ℕ → Past → Bool) (acts : ℕ → Past → List Act) : Type 0 where
  pub arrives : Arrives setting long l older world p (Message m)
  pub does : role_before (node_in header p.0) arrives.line (of p.0 arrives.before) ≡ Follow (peer_of (node_of l)) →
      steers arrives.line.port arrives.line.did.tick (before_line (node_in header p.0) arrives.line (of p.0 arrives.before)) ≡ true →
      takes arrives.line.did.tick (past_there header p.0 arrives.line arrives.before) ≡ true →
      DoesNext (acts arrives.line.did.tick (past_there header p.0 arrives.line arrives.before)) arrives.line (of p.0 arrives.before) (of p.0 world)

-- so it is of each correction of this kind: it moves the clock, and is acknowledged
abbrev pub CorrectsAs : Kind → (MessageValue → ℕ → Past → Bool) → (MessageValue → ℕ → Past → Act) → HeaderValue → Setting → ℕ → ℕ → (ℕ → Bool) → List Line →
    List Line → Type 0
CorrectsAs kind takes moved header setting long t stays s world = (l : Line) (older : List Line) (p : PeerId) (m : MessageValue) →
    Tells setting long t stays s l older world p m → m.kind ≡ kind →
    Corrects header setting long l older world p m (takes m) (λ x past. moved m x past ∷ arms_for_delay x past ∷
    posts_bare Ack m.number past (peer_of (node_of l)) ∷ [])

pub record ReachesInTime (header : HeaderValue) (setting : Setting) (long t : ℕ) (stays : ℕ → Bool) (s world : List Line) : Type 0 where
  -- a port that is Loose or a candidate follows who says that it is master
  pub masterup : ReachesAs MasterUp (λ p m x past. has_no_master (role past.seen)) (λ p m x past. follow_acts p x past) header setting long t stays s world
  -- and who sends it away, which it acknowledges
  pub quit : ReachesAs QuitKind (λ p m x past. has_no_master (role past.seen)) (λ p m x past. Quit p ∷ posts_bare Ack m.number past p ∷ follow_acts p x past)
      header setting long t stays s world
  -- a master takes in who reports to it, and sets it where a correction may begin
  pub slaveup : ReachesAs SlaveUp (λ p m x past. is_master_role (role past.seen) && may_join p m.number x past)
      (λ p m x past. Join p ∷ (if may_set p m.number x past then Post (Peer p) (Message (timed SetTime m.number (target_at x past) past.name)) ∷ [] else []))
      header setting long t stays s world
  -- a follower that may take a correction of its master moves its clock
  pub adjtime : CorrectsAs AdjTime (λ m x past. takes_amount m.number (time_in m.body) x past) (λ m x past. moved_by (time_in m.body) x past) header setting
      long t stays s world
  pub settime : CorrectsAs SetTime (λ m x past. takes_value m.number (time_in m.body) x past) (λ m x past. set_to (time_in m.body) x past) header setting
      long t stays s world

-- in a run in which datagrams are delivered in time
abbrev pub RunsReach : Type 0
RunsReach = (header : HeaderValue) (setting : Setting) (events : List Event) (long t : ℕ) (stays : ℕ → Bool) (s : List Line) → SetBy header setting →
    Delivered setting long t stays s (run header events) → ReachesInTime header setting long t stays s (run header events)

-- by any clocks
abbrev pub ClockedRunsReach : Type 0
ClockedRunsReach = (clocks : Clocks) (header : HeaderValue) (setting : Setting) (events : List Event) (long t : ℕ) (stays : ℕ → Bool) (s : List Line) →
    SetByClocks clocks header setting → Delivered setting long t stays s (run_by clocks header events) →
    ReachesInTime header setting long t stays s (run_by clocks header events)
