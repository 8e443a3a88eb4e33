-- At a Close a master moves its own clock, and posts an ADJTIME to each node in its table.
use Rattle.std.specs.Prelude.{◌≡◌, ◌≤◌, ℕ, ◌==◌, ◌-ℤ◌, ℤ, Bool, true, false, List, ◌∷◌, Some}
use Rattle.tsp_rules.specs.Values.{AdjTime, Correct, Event, Message, Peer, Post, SLACK}
use Rattle.tsp_base.specs.Words.{Acts, Estimate, HeaderValue, Line, MessageValue, Within, estimate, first_port, of, peer_of, time_in, view}
use Rattle.tsp_promises.specs.{Fits.node_of, Setting.Setting}
use Rattle.tsp_run.specs.Clocked.{Clocks, PossibleBy, SetByClocks, run_by}
use Rattle.tsp_run.specs.{Possible.Possible, Run.run, Setting.SetBy}
use Rattle.tsp_progress.specs.{Delivered.Delivered, FollowOn.Calm, FollowOn.FollowUntil, FollowOn.OneNetwork, InTable.InTable, InTable.KeepsRange}
use Rattle.tsp_progress.specs.{InTable.SetsNone, LateClose.LateClose, SampledInTime.IsSwift, Watched.Attended, Watched.Told}

-- the line right after the Close moves the clock by this mean
pub record MovesOwn (mean : ℤ) (close : Line) (past world : List Line) : Type 0 where
  pub next : Line
  pub place : Within (next ∷ (close ∷ past)) world
  pub node : node_of next ≡ node_of close
  pub stepped : Bool
  pub shown : ℤ
  pub deed : next.did.deed ≡ Acts (Correct mean stepped shown)

-- in the step of the Close n is posted an ADJTIME, with the ticket and by the mean less the offset of its best sample
pub record Slews (c n : ℕ) (mean : ℤ) (close : Line) (past world : List Line) : Type 0 where
  pub post : Line
  pub older : List Line
  pub place : Within (post ∷ older) world
  pub after : Within (close ∷ past) older
  pub node : node_of post ≡ c
  pub port : post.port ≡ first_port
  pub same : post.did.step ≡ close.did.step
  pub best : Estimate
  pub best_is : estimate (peer_of n) (view close.port (of c past)) ≡ Some best
  pub message : MessageValue
  pub deed : post.did.deed ≡ Acts (Post (Peer (peer_of n)) (Message message))
  pub kind : message.kind ≡ AdjTime
  pub number : message.number ≡ best.ticket
  pub amount : time_in message.body ≡ mean -ℤ best.diff

-- so it is at each Close that comes late enough after the place s
pub record SlewsTable (long t : ℕ) (stays : ℕ → Bool) (c : ℕ) (s world : List Line) : Type 0 where
  pub own : (close : Line) (past : List Line) (r : LateClose long t c s close past world) → MovesOwn r.mean close past world
  pub each : (close : Line) (past : List Line) (r : LateClose long t c s close past world) (n : ℕ) → stays n ≡ true → (n == c) ≡ false →
      Slews c n r.mean close past world

-- in a possible run that is calm after the place s, and follows node c, which has all in its table and posts no SETTIME; each node is looked at within
-- SLACK, datagrams are delivered in time, and clocks stay in their range
abbrev pub RunsSlewTable : Type 0
RunsSlewTable = (header : HeaderValue) (setting : Setting) (events : List Event) (late long t : ℕ) (stays : ℕ → Bool) (c : ℕ) (s : List Line) →
    SetBy header setting → Possible header events → Attended late (run header events) → late ≤ SLACK → Told late setting t c (run header events) →
    OneNetwork header setting stays c → Within s (run header events) → Calm long stays s (run header events) →
    Delivered setting long t stays s (run header events) → IsSwift setting long → FollowUntil stays c t s (run header events) →
    InTable stays c t s (run header events) → SetsNone c s (run header events) → KeepsRange s (run header events) →
    SlewsTable long t stays c s (run header events)

-- by any clocks
abbrev pub ClockedRunsSlewTable : Type 0
ClockedRunsSlewTable =
    (clocks : Clocks) (header : HeaderValue) (setting : Setting) (events : List Event) (late long t : ℕ) (stays : ℕ → Bool) (c : ℕ) (s : List Line) →
    SetByClocks clocks header setting → PossibleBy clocks header events → Attended late (run_by clocks header events) → late ≤ SLACK →
    Told late setting t c (run_by clocks header events) → OneNetwork header setting stays c → Within s (run_by clocks header events) →
    Calm long stays s (run_by clocks header events) → Delivered setting long t stays s (run_by clocks header events) → IsSwift setting long →
    FollowUntil stays c t s (run_by clocks header events) → InTable stays c t s (run_by clocks header events) →
    SetsNone c s (run_by clocks header events) → KeepsRange s (run_by clocks header events) → SlewsTable long t stays c s (run_by clocks header events)
