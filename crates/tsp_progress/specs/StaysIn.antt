-- In a calm network that follows its master, no follower leaves the master's table.
use Rattle.std.specs.Prelude.{◌≡◌, ◌≢◌, ◌≤◌, ◌<◌, ℕ, ◌+◌, ◌*◌, ◌/◌, ◌==◌, Bool, true, false, List, ◌∷◌}
use Rattle.tsp_rules.specs.Values.{AdjTime, Leave, Event, Message, Peer, Post, GAP, LIFE, SLACK, WINDOW}
use Rattle.tsp_rules.specs.{ClockRows.can_adjust, Guards.is_in_range}
use Rattle.tsp_base.specs.Words.{Acts, HeaderValue, Line, MessageValue, Within, dids, is_correction, of, peer_of, time_in, time_of}
use Rattle.tsp_promises.specs.{Fits.node_of, Premises.Honest, Premises.Life, Setting.Setting}
use Rattle.tsp_run.specs.Clocked.{Clocks, PossibleBy, SetByClocks, run_by}
use Rattle.tsp_run.specs.{Possible.Possible, Run.run, Setting.SetBy}
use Rattle.tsp_progress.specs.{ByTable.node_in, ByTable.port_before, Delivered.Delivered, FollowOn.AfterPlace, FollowOn.Calm, FollowOn.FollowUntil}
use Rattle.tsp_progress.specs.{OneWire.OneWire, Watched.Attended}

-- `long`, by the clock of a node that keeps the drift, is less than GAP, 1 s
abbrev pub IsBrief : Setting → ℕ → Type 0
IsBrief setting long = long + (setting.drift * long + 999999) / 1000000 < GAP

-- at the line l, after these lines, node c posts the correction m to node n
pub record PostsCorrection (c n : ℕ) (l : Line) (older world : List Line) (m : MessageValue) : Type 0 where
  pub place : Within (l ∷ older) world
  pub node : node_of l ≡ c
  pub deed : l.did.deed ≡ Acts (Post (Peer (peer_of n)) (Message m))
  pub kind : is_correction m.kind ≡ true

-- clocks are far from the ends of their range: after the place s each node's clock is in it, and so it would be with what an ADJTIME of node c adds, as
-- long as that is on its way
pub record InRange (header : HeaderValue) (long c : ℕ) (s world : List Line) : Type 0 where
  pub clock : AfterPlace s world (λ l older. is_in_range l.did.tick (port_before (node_in header (node_of l)) l (of (node_of l) older)) ≡ true)
  pub moved : AfterPlace s world (λ l older. (post : Line) (before : List Line) (m : MessageValue) → PostsCorrection c (node_of l) post before older m →
      m.kind ≡ AdjTime → l.did.step.at ≤ post.did.step.at + long →
      can_adjust (time_in m.body) l.did.tick (port_before (node_in header (node_of l)) l (of (node_of l) older)) ≡ true)

-- 40 s: by then all that began before is over
abbrev pub over_after : ℕ
over_after = LIFE + 2 * WINDOW

-- later than that after the place s, and until the true time t, no node that stays leaves node c's table
abbrev pub NoneLeaves : ℕ → (ℕ → Bool) → ℕ → List Line → List Line → Type 0
NoneLeaves t stays c s world = AfterPlace s world (λ l older. time_of (dids s) + over_after < l.did.step.at → l.did.step.at ≤ t → node_of l ≡ c →
    (n : ℕ) → stays n ≡ true → (n == c) ≡ false → l.did.deed ≢ Acts (Leave (peer_of n)))

-- in a possible run that is calm after the place s, follows node c until t, and in which each node is looked at within SLACK, datagrams are delivered within
-- less than a second, and no clock comes near the end of its range
abbrev pub RunsStayMember : Type 0
RunsStayMember = (header : HeaderValue) (setting : Setting) (events : List Event) (late long t : ℕ) (stays : ℕ → Bool) (c : ℕ) (s : List Line) →
    SetBy header setting → Possible header events → Attended late (run header events) → late ≤ SLACK → stays c ≡ true → OneWire header setting stays →
    Within s (run header events) → Calm long stays s (run header events) → Delivered setting long t stays s (run header events) → IsBrief setting long →
    Honest (run header events) → Life (run header events) → InRange header long c s (run header events) →
    FollowUntil stays c t s (run header events) → NoneLeaves t stays c s (run header events)

-- by any clocks
abbrev pub ClockedRunsStayMember : Type 0
ClockedRunsStayMember =
    (clocks : Clocks) (header : HeaderValue) (setting : Setting) (events : List Event) (late long t : ℕ) (stays : ℕ → Bool) (c : ℕ) (s : List Line) →
    SetByClocks clocks header setting → PossibleBy clocks header events → Attended late (run_by clocks header events) → late ≤ SLACK → stays c ≡ true →
    OneWire header setting stays → Within s (run_by clocks header events) → Calm long stays s (run_by clocks header events) →
    Delivered setting long t stays s (run_by clocks header events) → IsBrief setting long → Honest (run_by clocks header events) →
    Life (run_by clocks header events) → InRange header long c s (run_by clocks header events) →
    FollowUntil stays c t s (run_by clocks header events) → NoneLeaves t stays c s (run_by clocks header events)
