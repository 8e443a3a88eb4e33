-- A network whose nodes follow one master does so on.
use Rattle.std.specs.Prelude.{◌≡◌, ◌≢◌, ◌≤◌, ℕ, ◌+◌, ◌*◌, ◌==◌, Bool, true, false, List, ◌∷◌, length}
use Rattle.tsp_rules.specs.Values.{Boot, Post, Datagram, Peer, Role, Follow, Master, Event, ELECT_MIN, ROUND, SLACK}
use Rattle.tsp_base.specs.Words.{Acts, Handed, HeaderValue, Line, Within, dids, first_port, of, peer_of, role, time_of, view}
use Rattle.tsp_promises.specs.{Fits.node_of, Premises.TakenWithinAt, Setting.Setting}
use Rattle.tsp_run.specs.Clocked.{Clocks, PossibleBy, SetByClocks, run_by}
use Rattle.tsp_run.specs.{Possible.Possible, Run.run, Setting.SetBy}
use Rattle.tsp_progress.specs.{ByTable.node_in, Delivered.Delivered, Watched.Attended, Watched.Told}

-- the role of node n on its first port, at a place of the history
abbrev pub role_of : ℕ → List Line → Role
role_of n h = role (view first_port (of n h))

-- there node c is master, and each other node that stays follows it
pub record AllFollow (stays : ℕ → Bool) (c : ℕ) (h : List Line) : Type 0 where
  pub leads : role_of c h ≡ Master
  pub follow : (n : ℕ) → stays n ≡ true → (n == c) ≡ false → role_of n h ≡ Follow (peer_of c)

-- c stays, and has no other port; each node that stays is on its network by its first port
pub record OneNetwork (header : HeaderValue) (setting : Setting) (stays : ℕ → Bool) (c : ℕ) : Type 0 where
  pub there : stays c ≡ true
  pub single : length (node_in header c).ports ≡ 1
  pub net : (n : ℕ) → stays n ≡ true → setting.net n first_port ≡ setting.net c first_port

-- P holds at each line after the place s
abbrev pub AfterPlace : List Line → List Line → (Line → List Line → Type 0) → Type 0
AfterPlace s world P = (l : Line) (older : List Line) → Within (l ∷ older) world → Within s older → P l older

-- after the place s only nodes that stay do anything, none boots, no octets come from outside, nobody posts to itself, and nothing is taken that was
-- posted more than `long` before
pub record Calm (long : ℕ) (stays : ℕ → Bool) (s world : List Line) : Type 0 where
  pub only : AfterPlace s world (λ l older. stays (node_of l) ≡ true)
  pub unbooted : AfterPlace s world (λ l older. l.did.deed ≢ Acts Boot)
  pub unhanded : AfterPlace s world (λ l older. l.did.step.cause ≢ Handed)
  pub unsent : AfterPlace s world (λ l older. (d : Datagram) → l.did.deed ≢ Acts (Post (Peer (peer_of (node_of l))) d))
  pub soon : AfterPlace s world (λ l older. TakenWithinAt long l older)

-- `long` is at most 58 s: so a master calls its followers well before their Elect rings
abbrev pub IsMild : ℕ → Type 0
IsMild long = long + ROUND + 2 * SLACK ≤ ELECT_MIN

-- how long all must have followed: 242 s and `long`
abbrev pub settled_after : ℕ → ℕ
settled_after long = long + ROUND + 2 * SLACK

-- from the place s on, as long as the true time is at most t, all follow
abbrev pub FollowUntil : (ℕ → Bool) → ℕ → ℕ → List Line → List Line → Type 0
FollowUntil stays c t s world = (h : List Line) → Within h world → Within s h → time_of (dids h) ≤ t → AllFollow stays c h

-- if all follow for so long after the place s, they do so as long as c is told to be looked at
abbrev pub FollowOn : ℕ → ℕ → (ℕ → Bool) → ℕ → List Line → List Line → Type 0
FollowOn long t stays c s world = FollowUntil stays c (time_of (dids s) + settled_after long) s world → FollowUntil stays c t s world

-- in a possible run that is calm after the place s, in which each node is looked at within SLACK, and datagrams are delivered in time
abbrev pub RunsFollowOn : Type 0
RunsFollowOn = (header : HeaderValue) (setting : Setting) (events : List Event) (late long t : ℕ) (stays : ℕ → Bool) (c : ℕ) (s : List Line) →
    SetBy header setting → Possible header events → Attended late (run header events) → late ≤ SLACK → Told late setting t c (run header events) →
    OneNetwork header setting stays c → Calm long stays s (run header events) → Delivered setting long t stays s (run header events) → IsMild long →
    FollowOn long t stays c s (run header events)

-- by any clocks
abbrev pub ClockedRunsFollowOn : Type 0
ClockedRunsFollowOn =
    (clocks : Clocks) (header : HeaderValue) (setting : Setting) (events : List Event) (late long t : ℕ) (stays : ℕ → Bool) (c : ℕ) (s : List Line) →
    SetByClocks clocks header setting → PossibleBy clocks header events → Attended late (run_by clocks header events) → late ≤ SLACK →
    Told late setting t c (run_by clocks header events) → OneNetwork header setting stays c → Calm long stays s (run_by clocks header events) →
    Delivered setting long t stays s (run_by clocks header events) → IsMild long → FollowOn long t stays c s (run_by clocks header events)
