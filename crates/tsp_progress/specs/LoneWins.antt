-- A candidate that whoever it asks may back, and that no master sends away, wins where elections aren't strict.
use Rattle.std.specs.Prelude.{◌≡◌, ◌≢◌, ◌≤◌, ◌<◌, ℕ, ◌+◌, Bool, true, false, List, ◌∷◌}
use Rattle.tsp_rules.specs.Values.{Boot, Election, Event, Good, Kind, MasterAck, MasterUp, Message, Peer, Post, QuitKind, Took, LIFE, SLACK, WINDOW}
use Rattle.tsp_rules.specs.CommonRows.{is_idle}
use Rattle.tsp_base.specs.Words.{Acts, Begins, Did, HeaderValue, Here, Line, MessageValue, Seen, Within, held, may_back, of, peer_of, role, stood, view}
use Rattle.tsp_promises.specs.{Fits.node_of, Premises.Honest, Premises.Life, Setting.Setting}
use Rattle.tsp_run.specs.Clocked.{Clocks, PossibleBy, SetByClocks, run_by}
use Rattle.tsp_run.specs.{Possible.Possible, Run.run, Setting.SetBy}
use Rattle.tsp_progress.specs.{OneAtATime.StandsAt, Watched.Attended, WinsUnopposed.Won}

-- since LIFE (30 s) before the line c whoever takes an ELECTION of its node is Loose or follows, and may back it
abbrev pub Welcomed : Line → List Line → Type 0
Welcomed c world = (l : Line) (before : List Line) (m : MessageValue) → Within (l ∷ before) world → c.did.step.at ≤ l.did.step.at + LIFE → l.did.deed ≡
    Acts (Took (Peer (peer_of (node_of c))) (Good (Message m))) → m.kind ≡ Election →
    (is_idle (role (view l.port (of (node_of l) before))) ≡ true)
    × (may_back (held (view l.port (of (node_of l) before))) l.did.tick (peer_of (node_of c)) ≡ true)

-- what only masters post
abbrev pub is_masterly : Kind → Bool
is_masterly QuitKind = true
is_masterly MasterUp = true
is_masterly MasterAck = true
is_masterly _ = false

-- since LIFE before it stood no master said anything to it, and while it is that candidate it doesn't boot
pub record Unmastered (c : Line) (older world : List Line) : Type 0 where
  pub unbooted : (d : Did) (before : List Seen) → Within (Here d ∷ before) (view c.port (of (node_of c) world)) → stood before ≡ Here c.did ∷
      view c.port (of (node_of c) older) → d.deed ≢ Acts Boot
  pub unposted : (l : Line) (before : List Line) (m : MessageValue) → Within (l ∷ before) world → l.did.deed ≡
      Acts (Post (Peer (peer_of (node_of c))) (Message m)) → is_masterly m.kind ≡ true → l.did.step.at + LIFE < c.did.step.at

-- then, wherever a step of its node begins later than WINDOW (5 s) and `late` after it stood, it has won
abbrev pub LoneWins : ℕ → List Line → Type 0
LoneWins late world = (c : Line) (older : List Line) → StandsAt c older world → Welcomed c world → Unmastered c older world → (l : Line) (before : List Line) →
    Within (l ∷ before) world → l.did.deed ≡ Begins → node_of l ≡ node_of c → Within (c ∷ older) before → c.did.tick + (WINDOW + late) < l.did.tick →
    Won c older before

-- in each possible run in which each node is looked at in time, none forges, none is late by 30 s, and elections aren't strict
abbrev pub RunsWinAlone : Type 0
RunsWinAlone = (header : HeaderValue) (setting : Setting) (events : List Event) (late : ℕ) → SetBy header setting → Possible header events →
    Attended late (run header events) → late ≤ SLACK → header.strict ≡ false → Honest (run header events) → Life (run header events) →
    LoneWins late (run header events)

-- by any clocks
abbrev pub ClockedRunsWinAlone : Type 0
ClockedRunsWinAlone = (clocks : Clocks) (header : HeaderValue) (setting : Setting) (events : List Event) (late : ℕ) → SetByClocks clocks header setting →
    PossibleBy clocks header events → Attended late (run_by clocks header events) → late ≤ SLACK → header.strict ≡ false →
    Honest (run_by clocks header events) → Life (run_by clocks header events) → LoneWins late (run_by clocks header events)
