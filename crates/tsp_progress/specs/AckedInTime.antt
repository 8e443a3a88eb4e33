-- A numbered send whose addressee acts on it is acknowledged in time, and isn't given up.
use Rattle.std.specs.Prelude.{◌≡◌, ◌≢◌, ◌<◌, ◌⊎◌, ℕ, ◌+◌, ◌*◌, ◌/◌, ◌==◌, ◌&&◌, ◌||◌, not, Bool, true, false, if◌then◌else◌, List, [], ◌∷◌}
use Rattle.tsp_rules.specs.Values.{Act, Boot, Post, Become, Backer, Acked, Gave, Accept, Ack, AdjTime, Conflict, Election, QuitKind, Refuse, SetTime, Message}
use Rattle.tsp_rules.specs.Values.{Kind}
use Rattle.tsp_rules.specs.Values.{PeerId, Peer, Role, Loose, Event, RETRY, TRIES}
use Rattle.tsp_rules.specs.{CommonRows.is_idle, Guards.may_back_at, SlaveRows.is_repeated, SlaveRows.takes_amount}
use Rattle.tsp_rules.specs.SlaveRows.{takes_value}
use Rattle.tsp_base.specs.Words.{Acts, Deed, Did, HeaderValue, Here, Line, MessageValue, Past, Seen, Within, acting, bare, is_numbered, of, open_to, peer_of}
use Rattle.tsp_base.specs.Words.{role, time_in, view}
use Rattle.tsp_promises.specs.{Fits.node_of, Setting.Setting}
use Rattle.tsp_run.specs.Clocked.{Clocks, PossibleBy, SetByClocks, run_by}
use Rattle.tsp_run.specs.{Possible.Possible, Run.run, Setting.SetBy}
use Rattle.tsp_progress.specs.AnswersInTime.{AnswerTaken, Asks, Meanwhile}
use Rattle.tsp_progress.specs.{ByTable.node_in, Delivered.Delivered, Obedient.Obedient, SentAway.past_there}
use Rattle.tsp_progress.specs.Heeds.{DoesNext, arms_for_delay, is_candidate_role, is_master_role, is_up_role}

-- a deed that ends the open send to p, but for a Gave: a boot, a change of the role, an Acked, and a new send to p
abbrev pub ends_otherwise : PeerId → Deed → Bool → Bool
ends_otherwise p (Acts Boot) begins = true
ends_otherwise p (Acts (Become r)) begins = true
ends_otherwise p (Acts (Post (Peer q) (Message m))) begins = (q.0 == p.0) && (is_numbered m.kind && begins)
ends_otherwise p (Acts (Acked q)) begins = q.0 == p.0
ends_otherwise p _ begins = false

-- the send to p that begins with the first place was open until such a deed, which stands in the later past
pub record EndedBefore (p : PeerId) (first late : List Seen) : Type 0 where
  pub end : Did
  pub before : List Seen
  pub place : Within (Here end ∷ before) late
  pub open_is : open_to p before ≡ first
  pub is : ends_otherwise p end.deed (acting before) ≡ true

-- nowhere in this past is that send given up
abbrev pub NeverGivenUp : PeerId → List Seen → List Seen → Type 0
NeverGivenUp p first seen = (gave : Did) (before : List Seen) → Within (Here gave ∷ before) seen → gave.deed ≡ Acts (Gave p) → open_to p before ≢ first

-- twice `long`, by the clock of a node that keeps the drift, is less than TRIES times RETRY
abbrev pub IsPrompt : Setting → ℕ → Type 0
IsPrompt setting long = 2 * long + (setting.drift * (2 * long) + 999999) / 1000000 < TRIES * RETRY

-- a send that begins at the line l, by a port in such a role
pub record Begins (in_role : Role → Bool) (l : Line) (older : List Line) : Type 0 where
  pub begins : acting (view l.port (of (node_of l) older)) ≡ true
  pub role_is : in_role (role (view l.port (of (node_of l) older))) ≡ true

-- the send to p that begins at l is answered by p at most twice `long` later; then this comes next, unless the send ended before. It is never given up
pub record Acknowledged (header : HeaderValue) (long : ℕ) (l : Line) (older world : List Line) (p : PeerId) (answer : MessageValue) (acts : ℕ → Past →
    List Act) :
    Type 0 where
  pub taken : AnswerTaken long l older world p (Message answer)
  pub ends : EndedBefore p (Here l.did ∷ view l.port (of (node_of l) older)) (view l.port (of (node_of l) taken.before))
      ⊎ DoesNext (acts taken.line.did.tick (past_there header (node_of l) taken.line taken.before)) taken.line (of (node_of l) taken.before)
      (of (node_of l) world)
  pub kept : NeverGivenUp p (Here l.did ∷ view l.port (of (node_of l) older)) (view l.port (of (node_of l) world))

-- a send of this kind, to a port for which this is so meanwhile, is answered so
abbrev pub AckedAs : Kind → (Role → Bool) → (Line → List Line → PeerId → MessageValue → Type 0) → Kind → (PeerId → ℕ → Past → List Act) → HeaderValue →
    Setting →
    ℕ → ℕ → (ℕ → Bool) → List Line → List Line → Type 0
AckedAs kind in_role meanwhile answer acts header setting long t stays s world = (l : Line) (older : List Line) (p : PeerId) (m : MessageValue) →
    Asks setting long t stays s l older world p (Message m) → m.kind ≡ kind → Begins in_role l older → meanwhile l older p m →
    Acknowledged header long l older world p (bare answer m.number (node_in header p.0).name) (acts p)

-- whether a port may take the correction m of the node of l, or took it last; then it acknowledges it again
abbrev pub may_obey : Line → MessageValue → (ℕ → Past → Bool) → ℕ → Past → Bool
may_obey l m takes x past = takes x past || is_repeated (peer_of (node_of l)) m.number x past

-- whether a port refuses the vote to p: it is a candidate, or its hold doesn't let it back p
abbrev pub refuses_vote : PeerId → ℕ → Past → Bool
refuses_vote p x past = if is_candidate_role (role past.seen) then true else (is_idle (role past.seen) && not (may_back_at p x past))

pub record AckedInTime (header : HeaderValue) (setting : Setting) (long t : ℕ) (stays : ℕ → Bool) (s world : List Line) : Type 0 where
  -- a QUIT, to a port that isn't Starting meanwhile
  pub quits : AckedAs QuitKind is_up_role (λ l older p m. Meanwhile header setting long l older world p (λ x past. is_up_role (role past.seen))) Ack
      (λ p x past. Acked p ∷ []) header setting long t stays s world
  -- a CONFLICT, to a port that is master meanwhile
  pub conflicts : AckedAs Conflict is_up_role (λ l older p m. Meanwhile header setting long l older world p (λ x past. is_master_role (role past.seen))) Ack
      (λ p x past. Acked p ∷ []) header setting long t stays s world
  -- a correction, to a follower that steers its clock, and meanwhile may take this correction or took it last
  pub adjtimes : AckedAs AdjTime is_up_role (λ l older p m. Obedient header setting long l older world p
      (may_obey l m (takes_amount m.number (time_in m.body))))
      Ack (λ p x past. Acked p ∷ []) header setting long t stays s world
  pub settimes : AckedAs SetTime is_up_role (λ l older p m. Obedient header setting long l older world p (may_obey l m (takes_value m.number (time_in m.body))))
      Ack (λ p x past. Acked p ∷ []) header setting long t stays s world
  -- a candidate's ELECTION, to a port that is Loose or follows, and whose hold lets it back the candidate: that port votes for it
  pub votes : AckedAs Election is_candidate_role (λ l older p m. Meanwhile header setting long l older world p (λ x past. is_idle (role past.seen) &&
      may_back_at (peer_of (node_of l)) x past)) Accept (λ p x past. Acked p ∷ Backer p ∷ []) header setting long t stays s world
  -- and to one that refuses: the candidate stands no more
  pub refusals : AckedAs Election is_candidate_role (λ l older p m. Meanwhile header setting long l older world p (refuses_vote (peer_of (node_of l))))
      Refuse (λ p x past. Acked p ∷ Become Loose ∷ arms_for_delay x past ∷ []) header setting long t stays s world

-- in a possible run in which datagrams are delivered in time
abbrev pub RunsAcknowledge : Type 0
RunsAcknowledge = (header : HeaderValue) (setting : Setting) (events : List Event) (long t : ℕ) (stays : ℕ → Bool) (s : List Line) → SetBy header setting →
    Possible header events → Delivered setting long t stays s (run header events) → IsPrompt setting long →
    AckedInTime header setting long t stays s (run header events)

-- by any clocks
abbrev pub ClockedRunsAcknowledge : Type 0
ClockedRunsAcknowledge = (clocks : Clocks) (header : HeaderValue) (setting : Setting) (events : List Event) (long t : ℕ) (stays : ℕ → Bool) (s : List Line) →
    SetByClocks clocks header setting → PossibleBy clocks header events → Delivered setting long t stays s (run_by clocks header events) →
    IsPrompt setting long → AckedInTime header setting long t stays s (run_by clocks header events)
