-- A candidate that nobody refuses or sends away wins at its Window, where elections aren't strict.
use Rattle.std.specs.Prelude.{◌≡◌, ◌≢◌, ◌≤◌, ◌<◌, ℕ, ◌+◌, Bool, true, false, List, ◌∷◌, Option, None, Some}
use Rattle.tsp_rules.specs.Values.{Boot, Event, Good, Kind, MasterAck, MasterUp, Message, Peer, Place, Post, QuitKind, Refuse, Taken, LIFE, SLACK}
use Rattle.tsp_rules.specs.Values.{WINDOW}
use Rattle.tsp_base.specs.Words.{Acts, Begins, Did, HeaderValue, Here, Line, MessageValue, Received, Seen, Within, of, peer_of, stood, taken, view}
use Rattle.tsp_promises.specs.{Fits.node_of, Premises.Honest, Premises.Life, Setting.Setting}
use Rattle.tsp_run.specs.Clocked.{Clocks, PossibleBy, SetByClocks, run_by}
use Rattle.tsp_run.specs.{Possible.Possible, Run.run, Setting.SetBy}
use Rattle.tsp_progress.specs.{OneAtATime.StandsAt, OneAtATime.WinsIt, Watched.Attended, Watched.Told}

-- messages of a peer that may end a candidature
abbrev pub opposes : Kind → Bool
opposes Refuse = true
opposes QuitKind = true
opposes MasterUp = true
opposes MasterAck = true
opposes _ = false

abbrev pub opposes_in : Place → Taken → Bool
opposes_in (Peer p) (Good (Message m)) = opposes m.kind
opposes_in _ _ = false

abbrev pub opposed : Option Received → Bool
opposed None = false
opposed (Some r) = opposes_in r.from r.taken

-- while the port is the candidate that it became at the line c, it doesn't boot, and in no step of it has it taken such a message
abbrev pub Unopposed : Line → List Line → List Line → Type 0
Unopposed c older world = (d : Did) (before : List Seen) → Within (Here d ∷ before) (view c.port (of (node_of c) world)) → stood before ≡ Here c.did ∷
    view c.port (of (node_of c) older) → (d.deed ≢ Acts Boot) × (opposed (taken before) ≡ false)

-- the candidature of the line c was won
pub record Won (c : Line) (older world : List Line) : Type 0 where
  pub line : Line
  pub before : List Line
  pub wins : WinsIt c older line before world

-- wherever a step of its node begins later than WINDOW (5 s) and `late` after it stood, it has won
abbrev pub WinsUnopposed : ℕ → List Line → Type 0
WinsUnopposed late world = (c : Line) (older : List Line) → StandsAt c older world → Unopposed c older world → (l : Line) (before : List Line) →
    Within (l ∷ before) world → l.did.deed ≡ Begins → node_of l ≡ node_of c → Within (c ∷ older) before → c.did.tick + (WINDOW + late) < l.did.tick →
    Won c older before

-- so it has at the end, if its node is told so far
abbrev pub WonUnopposed : ℕ → Setting → ℕ → ℕ → List Line → Type 0
WonUnopposed late setting t n world = (c : Line) (older : List Line) → StandsAt c older world → Unopposed c older world → node_of c ≡ n →
    c.did.tick + (WINDOW + late) < setting.tick n t → Won c older world

-- since LIFE (30 s) before it stood nobody posted such a message to it, and while it is that candidate it doesn't boot
pub record Unhindered (c : Line) (older world : List Line) : Type 0 where
  pub unbooted : (d : Did) (before : List Seen) → Within (Here d ∷ before) (view c.port (of (node_of c) world)) → stood before ≡ Here c.did ∷
      view c.port (of (node_of c) older) → d.deed ≢ Acts Boot
  pub unposted : (l : Line) (before : List Line) (m : MessageValue) → Within (l ∷ before) world → l.did.deed ≡
      Acts (Post (Peer (peer_of (node_of c))) (Message m)) → opposes m.kind ≡ true → l.did.step.at + LIFE < c.did.step.at

-- then it isn't opposed
abbrev pub Unhindering : List Line → Type 0
Unhindering world = (c : Line) (older : List Line) → StandsAt c older world → Unhindered c older world → Unopposed c older world

-- in each possible run in which each node is looked at in time, and elections aren't strict
abbrev pub RunsWin : Type 0
RunsWin = (header : HeaderValue) (setting : Setting) (events : List Event) (late : ℕ) → SetBy header setting → Possible header events →
    Attended late (run header events) → late ≤ SLACK → header.strict ≡ false →
    WinsUnopposed late (run header events)
    × (((t n : ℕ) → Told late setting t n (run header events) → WonUnopposed late setting t n (run header events))
    × (Honest (run header events) → Life (run header events) → Unhindering (run header events)))

-- by any clocks
abbrev pub ClockedRunsWin : Type 0
ClockedRunsWin = (clocks : Clocks) (header : HeaderValue) (setting : Setting) (events : List Event) (late : ℕ) → SetByClocks clocks header setting →
    PossibleBy clocks header events → Attended late (run_by clocks header events) → late ≤ SLACK → header.strict ≡ false →
    WinsUnopposed late (run_by clocks header events)
    × (((t n : ℕ) → Told late setting t n (run_by clocks header events) → WonUnopposed late setting t n (run_by clocks header events))
    × (Honest (run_by clocks header events) → Life (run_by clocks header events) → Unhindering (run_by clocks header events)))
