-- Where one node alone may be master, it leads soon.
use Rattle.std.specs.Prelude.{◌≡◌, ◌≢◌, ◌≤◌, ℕ, ◌==◌, true, false, List}
use Rattle.tsp_rules.specs.Values.{Post, Message, Peer, Event, LoopKind, SLACK}
use Rattle.tsp_base.specs.Words.{Acts, Handed, HeaderValue, Line, MessageValue, peer_of}
use Rattle.tsp_promises.specs.{Everywhere.Everywhere, Fits.node_of, Setting.Setting}
use Rattle.tsp_run.specs.{Clocked.Clocks, Clocked.PossibleBy, Clocked.SetByClocks, Clocked.run_by, Premised.Sealed}
use Rattle.tsp_run.specs.{Possible.Possible, Run.run, Setting.SetBy}
use Rattle.tsp_progress.specs.{CausesFit.stirs, LoneLeads.Led, LoneLeads.LoneLeads, RunsWake.manner_of, Watched.Attended}
use Rattle.tsp_progress.specs.Watched.{Told}

-- no node but c may be master
abbrev pub OneMayBe : ℕ → HeaderValue → Type 0
OneMayBe c header = (n : ℕ) → (n == c) ≡ false → (manner_of header n).may ≡ false

-- nobody posts a LOOP to node c, which posts to itself nothing that stirs, and no octets from outside come to it
pub record LeftAlone (c : ℕ) (world : List Line) : Type 0 where
  pub unlooped : Everywhere (λ (l : Line) (before : List Line). (m : MessageValue) → l.did.deed ≡ Acts (Post (Peer (peer_of c)) (Message m)) → m.kind ≢
      LoopKind) world
  pub unsent : Everywhere (λ (l : Line) (before : List Line). node_of l ≡ c → (m : MessageValue) → l.did.deed ≡ Acts (Post (Peer (peer_of c)) (Message m)) →
      stirs m.kind ≡ false) world
  pub unhanded : Everywhere (λ (l : Line) (before : List Line). node_of l ≡ c → l.did.step.cause ≢ Handed) world

-- in each possible run by any clocks, in which nothing seems to come from a peer that it didn't post, such a node is master at most 690 s and
-- four times `late` after each of its boots, and is so at the end, if it booted so long before
abbrev pub OneLeads : Type 0
OneLeads =
    (clocks : Clocks) (header : HeaderValue) (setting : Setting) (events : List Event) (late c : ℕ) → SetByClocks clocks header setting →
    PossibleBy clocks header events → Sealed events → Attended late (run_by clocks header events) → late ≤ SLACK → (manner_of header c).may ≡ true →
    (manner_of header c).strict ≡ false → OneMayBe c header → LeftAlone c (run_by clocks header events) →
    LoneLeads c late (run_by clocks header events)
    × ((t : ℕ) → Told late setting t c (run_by clocks header events) → Led c late setting t (run_by clocks header events))

-- so it is in the run of each possible schedule
abbrev pub OneLeadsRun : Type 0
OneLeadsRun =
    (header : HeaderValue) (setting : Setting) (events : List Event) (late c : ℕ) → SetBy header setting → Possible header events → Sealed events →
    Attended late (run header events) → late ≤ SLACK → (manner_of header c).may ≡ true → (manner_of header c).strict ≡ false → OneMayBe c header →
    LeftAlone c (run header events) →
    LoneLeads c late (run header events) × ((t : ℕ) → Told late setting t c (run header events) → Led c late setting t (run header events))
