-- What a port does at once with a message of a peer.
use Rattle.std.specs.Prelude.{◌≡◌, ℕ, ◌+◌, ◌+ℤ◌, ◌-ℤ◌, ℤ, Bool, true, false, if◌then◌else◌, List, [], ◌∷◌}
use Rattle.tsp_rules.specs.Values.{Act, Took, Post, Become, Arm, Back, Backer, Quit, Acked, Join, Correct, Elect, Search, Good, Message, PeerId, Peer, Role}
use Rattle.tsp_rules.specs.Values.{Loose, Follow, Candidate, Master, Kind, Accept, Ack, AdjTime, Election, MasterAck, MasterReq, MasterUp, QuitKind, Refuse}
use Rattle.tsp_rules.specs.Values.{ResolveKind, SetTime, SlaveUp}
use Rattle.tsp_rules.specs.{ClockRows.is_step, CommonRows.is_idle, GateRows.steers, MasterRows.may_join, NodeRows.NodePast, SendRows.has_election}
use Rattle.tsp_rules.specs.{SendRows.has_other, SendRows.has_quit, SendRows.may_set, SendRows.next_number, SlaveRows.takes_amount}
use Rattle.tsp_rules.specs.SlaveRows.{takes_value}
use Rattle.tsp_rules.specs.Guards.{delay_at, is_armed, is_follow, is_heard, is_own, may_back_at, target_at, ticket_at}
use Rattle.tsp_base.specs.Words.{Acts, HeaderValue, Line, MessageValue, Past, Within, joined, of, placed, plain, post_of, role, shown, time_in, timed}
use Rattle.tsp_progress.specs.ByTable.{before_line, node_in, port_before}

-- at the line l of a node, after these lines of it, its port takes message m of p: another peer of the port, which isn't Starting
pub record Hears (node : NodePast) (lines : List Line) (l : Line) (older : List Line) (p : PeerId) (m : MessageValue) : Type 0 where
  pub place : Within (l ∷ older) lines
  pub took : l.did.deed ≡ Acts (Took (Peer p) (Good (Message m)))
  pub peer : is_heard p l.did.tick (port_before node l older) ≡ true
  pub other : is_own (Peer p) l.did.tick (port_before node l older) ≡ false

-- these acts come next on the line's port, in the same step
abbrev pub DoesNext : List Act → Line → List Line → List Line → Type 0
DoesNext acts l older lines = Within (joined l.did.step l.did.tick (placed l.port acts) (l ∷ older)) lines

-- the port's role before the line
abbrev pub role_before : NodePast → Line → List Line → Role
role_before node l older = role (port_before node l older).seen

-- when a port that hears such a message has such a role, it does this next
abbrev pub Heeds : Kind → (Role → Bool) → (PeerId → MessageValue → ℕ → Past → Bool) → (PeerId → MessageValue → ℕ → Past → List Act) → NodePast → List Line →
    Type 0
Heeds kind in_role if_so acts node lines = (l : Line) (older : List Line) (p : PeerId) (m : MessageValue) → Hears node lines l older p m → m.kind ≡ kind →
    in_role (role_before node l older) ≡ true → if_so p m l.did.tick (port_before node l older) ≡ true →
    DoesNext (acts p m l.did.tick (port_before node l older)) l older lines

abbrev pub always : PeerId → MessageValue → ℕ → Past → Bool
always p m x past = true

abbrev pub is_loose : Role → Bool
is_loose Loose = true
is_loose _ = false

abbrev pub is_candidate_role : Role → Bool
is_candidate_role Candidate = true
is_candidate_role _ = false

abbrev pub is_master_role : Role → Bool
is_master_role Master = true
is_master_role _ = false

-- a port that has no master and leads nobody
abbrev pub has_no_master : Role → Bool
has_no_master Loose = true
has_no_master Candidate = true
has_no_master _ = false

-- the post of a message without a content
abbrev pub posts_bare : Kind → ℕ → Past → PeerId → Act
posts_bare kind number past p = post_of kind number past.name p

-- Elect is armed for the node's delay
abbrev pub arms_for_delay : ℕ → Past → Act
arms_for_delay x past = Arm Elect (x + delay_at x past)

-- the port follows p: it changes its role, arms Elect and reports its ticket
abbrev pub follow_acts : PeerId → ℕ → Past → List Act
follow_acts p x past = Become (Follow p) ∷ arms_for_delay x past ∷ posts_bare SlaveUp (ticket_at x past) past p ∷ []

-- a clock that is moved by an amount: a large one is a step to the new target
abbrev pub moved_by : ℤ → ℕ → Past → Act
moved_by amount x past = Correct amount (is_step amount) (if is_step amount then target_at x past +ℤ amount else shown (plain past.seen) x)

-- a clock that is set
abbrev pub set_to : ℤ → ℕ → Past → Act
set_to value x past = Correct (value -ℤ target_at x past) true value

-- a port without a master follows whoever says that it is one, and whoever sends it away
pub record Follows (node : NodePast) (lines : List Line) : Type 0 where
  -- MASTERUP
  pub masterup : Heeds MasterUp has_no_master always (λ p m x past. follow_acts p x past) node lines
  -- MASTERACK: at a candidate, and at a port that searches
  pub masterack : Heeds MasterAck is_candidate_role always (λ p m x past. follow_acts p x past) node lines
  pub found : Heeds MasterAck is_loose (λ p m x past. is_armed Search x past) (λ p m x past. follow_acts p x past) node lines
  -- QUIT, which is acknowledged
  pub quit : Heeds QuitKind (λ r. has_no_master r) always (λ p m x past. Quit p ∷ posts_bare Ack m.number past p ∷ follow_acts p x past) node lines
  -- a master too stops leading, and follows
  pub quits : Heeds QuitKind is_master_role always (λ p m x past. Quit p ∷ posts_bare Ack m.number past p ∷ follow_acts p x past) node lines
  -- a follower acknowledges it, and stays
  pub stays : Heeds QuitKind is_follow always (λ p m x past. Quit p ∷ posts_bare Ack m.number past p ∷ []) node lines

-- a port answers a candidate
pub record Votes (node : NodePast) (lines : List Line) : Type 0 where
  -- where the hold allows it, a port that is Loose or follows backs it, and waits anew
  pub backs : Heeds Election is_idle (λ p m x past. may_back_at p x past) (λ p m x past. Back p ∷ arms_for_delay x past ∷ posts_bare Accept m.number past p ∷
      [])
      node lines
  -- a candidate refuses
  pub refuses : Heeds Election is_candidate_role always (λ p m x past. posts_bare Refuse m.number past p ∷ []) node lines
  -- a master sends it away, unless it is doing so
  pub sends_away : Heeds Election is_master_role (λ p m x past. if has_quit p x past then false else true)
      (λ p m x past. posts_bare QuitKind (next_number x past) past p ∷ []) node lines

-- a master answers who asks for it, and takes in who reports to it
pub record Serves (node : NodePast) (lines : List Line) : Type 0 where
  pub masterreq : Heeds MasterReq is_master_role always (λ p m x past. posts_bare MasterAck m.number past p ∷ []) node lines
  pub resolve : Heeds ResolveKind is_master_role always (λ p m x past. posts_bare MasterAck m.number past p ∷ []) node lines
  -- who reports with a ticket, and isn't a slave yet, joins, and is sent the time where a correction may begin
  pub joins : Heeds SlaveUp is_master_role (λ p m x past. may_join p m.number x past)
      (λ p m x past. Join p ∷ (if may_set p m.number x past then Post (Peer p) (Message (timed SetTime m.number (target_at x past) past.name)) ∷ [] else []))
      node lines

-- a message is heeded at a port that steers the clock and follows its sender
abbrev pub HeedsMaster : Kind → (PeerId → MessageValue → ℕ → Past → Bool) → (PeerId → MessageValue → ℕ → Past → List Act) → NodePast → List Line → Type 0
HeedsMaster kind if_so acts node lines = (l : Line) (older : List Line) (p : PeerId) (m : MessageValue) → Hears node lines l older p m → m.kind ≡ kind →
    role_before node l older ≡ Follow p → steers l.port l.did.tick (before_line node l older) ≡ true →
    if_so p m l.did.tick (port_before node l older) ≡ true → DoesNext (acts p m l.did.tick (port_before node l older)) l older lines

-- a follower heeds its master
pub record Obeys (node : NodePast) (lines : List Line) : Type 0 where
  -- a correction with its clock's ticket moves the clock, unless the last one is too young or the range ends; it waits anew, and acknowledges it
  pub adjtime : HeedsMaster AdjTime (λ p m x past. takes_amount m.number (time_in m.body) x past)
      (λ p m x past. moved_by (time_in m.body) x past ∷ arms_for_delay x past ∷ posts_bare Ack m.number past p ∷ []) node lines
  pub settime : HeedsMaster SetTime (λ p m x past. takes_value m.number (time_in m.body) x past)
      (λ p m x past. set_to (time_in m.body) x past ∷ arms_for_delay x past ∷ posts_bare Ack m.number past p ∷ []) node lines
  -- MASTERUP: it waits anew, and reports
  pub masterup : HeedsMaster MasterUp always (λ p m x past. arms_for_delay x past ∷ posts_bare SlaveUp (ticket_at x past) past p ∷ []) node lines

-- whether a port isn't Starting
abbrev pub is_up_role : Role → Bool
is_up_role Loose = true
is_up_role (Follow p) = true
is_up_role Candidate = true
is_up_role Master = true
is_up_role _ = false

-- what answers a numbered send ends it
pub record Ends (node : NodePast) (lines : List Line) : Type 0 where
  pub ack : Heeds Ack is_up_role (λ p m x past. has_other p m.number x past) (λ p m x past. Acked p ∷ []) node lines
  pub accept : Heeds Accept is_candidate_role (λ p m x past. has_election p m.number x past) (λ p m x past. Acked p ∷ Backer p ∷ []) node lines
  -- a candidate that is refused stands no more
  pub refuse : Heeds Refuse is_candidate_role (λ p m x past. has_election p m.number x past)
      (λ p m x past. Acked p ∷ Become Loose ∷ arms_for_delay x past ∷ []) node lines

-- all of this
pub record HeedsPeers (node : NodePast) (lines : List Line) : Type 0 where
  pub follows : Follows node lines
  pub votes : Votes node lines
  pub serves : Serves node lines
  pub obeys : Obeys node lines
  pub ends : Ends node lines

-- at each node
abbrev pub AllHeed : HeaderValue → List Line → Type 0
AllHeed header world = (n : ℕ) → HeedsPeers (node_in header n) (of n world)
