-- In a network that follows its master, a follower's ticket stays while its master corrects it no more.
use Rattle.std.specs.Prelude.{◌≡◌, ◌≤◌, ◌<◌, ℕ, ◌+◌, ◌==◌, ℤ, Bool, true, false, List, ◌∷◌}
use Rattle.tsp_rules.specs.Values.{Correct, Event, Message, Peer, Post}
use Rattle.tsp_base.specs.Words.{Acts, HeaderValue, Line, MessageValue, Undisturbed, Within, dids, first_port, is_correction, of, peer_of, ticket, time_of}
use Rattle.tsp_promises.specs.{Fits.node_of, Setting.Setting}
use Rattle.tsp_run.specs.Clocked.{Clocks, PossibleBy, SetByClocks, run_by}
use Rattle.tsp_run.specs.{Possible.Possible, Run.run, Setting.SetBy}
use Rattle.tsp_progress.specs.FollowOn.{AfterPlace, Calm, FollowUntil}

-- each correction that node c posted to n, up to the place h, was posted more than `long` before the place g
abbrev pub LongCorrected : ℕ → ℕ → ℕ → List Line → List Line → Type 0
LongCorrected long c n g h = (post : Line) (before : List Line) (m : MessageValue) → Within (post ∷ before) h → node_of post ≡ c → post.did.deed ≡
    Acts (Post (Peer (peer_of n)) (Message m)) → is_correction m.kind ≡ true → post.did.step.at + long < time_of (dids g)

-- node n corrects its clock on its first port alone
abbrev pub CorrectsFirst : ℕ → List Line → List Line → Type 0
CorrectsFirst n s world = AfterPlace s world (λ l older. node_of l ≡ n → (amount : ℤ) (stepped : Bool) (shown : ℤ) → l.did.deed ≡
    Acts (Correct amount stepped shown) → l.port ≡ first_port)

-- between two such places the node neither boots nor corrects its clock, so its ticket stays
pub record TicketStays (n : ℕ) (g h : List Line) : Type 0 where
  pub left : Undisturbed (dids (of n g)) (dids (of n h))
  pub same : ticket (dids (of n h)) ≡ ticket (dids (of n g))

abbrev pub KeepsTicket : ℕ → ℕ → ℕ → List Line → List Line → Type 0
KeepsTicket long t c s world = (n : ℕ) (g h : List Line) → (n == c) ≡ false → CorrectsFirst n s world → Within s g → Within g h → Within h world →
    time_of (dids h) ≤ t → LongCorrected long c n g h → TicketStays n g h

-- in a possible run that is calm after the place s, as long as all follow node c
abbrev pub RunsKeepTicket : Type 0
RunsKeepTicket = (header : HeaderValue) (setting : Setting) (events : List Event) (long t : ℕ) (stays : ℕ → Bool) (c : ℕ) (s : List Line) →
    SetBy header setting → Possible header events → Calm long stays s (run header events) → FollowUntil stays c t s (run header events) →
    KeepsTicket long t c s (run header events)

-- by any clocks
abbrev pub ClockedRunsKeepTicket : Type 0
ClockedRunsKeepTicket =
    (clocks : Clocks) (header : HeaderValue) (setting : Setting) (events : List Event) (long t : ℕ) (stays : ℕ → Bool) (c : ℕ) (s : List Line) →
    SetByClocks clocks header setting → PossibleBy clocks header events → Calm long stays s (run_by clocks header events) →
    FollowUntil stays c t s (run_by clocks header events) → KeepsTicket long t c s (run_by clocks header events)
