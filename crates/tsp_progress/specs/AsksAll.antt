-- Who stands for election asks each other member of its network for its vote, at once.
use Rattle.std.specs.Prelude.{◌≡◌, ◌==◌, true, false, List, ◌∷◌}
use Rattle.tsp_rules.specs.Values.{Back, Election, Event, Message, Peer, PeerId, Post}
use Rattle.tsp_base.specs.Words.{Acts, HeaderValue, Line, MessageValue, Within, is_among}
use Rattle.tsp_promises.specs.{Fits.node_of, Setting.Setting}
use Rattle.tsp_run.specs.Clocked.{Clocks, PossibleBy, SetByClocks, run_by}
use Rattle.tsp_run.specs.{Possible.Possible, Run.run, Setting.SetBy}
use Rattle.tsp_progress.specs.{AckedInTime.Begins, Heeds.is_candidate_role, OneAtATime.StandsAt}

-- in the step of the line c its port asks p for its vote, later: it begins a send to p, as a candidate
pub record AsksPeer (c : Line) (older world : List Line) (p : PeerId) : Type 0 where
  pub line : Line
  pub before : List Line
  pub place : Within (line ∷ before) world
  pub later : Within (c ∷ older) before
  pub step : line.did.step ≡ c.did.step
  pub port : line.port ≡ c.port
  pub message : MessageValue
  pub deed : line.did.deed ≡ Acts (Post (Peer p) (Message message))
  pub kind : message.kind ≡ Election
  pub begins : Begins is_candidate_role line before

-- in the step of the line c its port backs itself
pub record BacksOwn (c : Line) (older world : List Line) : Type 0 where
  pub line : Line
  pub before : List Line
  pub place : Within (line ∷ before) world
  pub later : Within (c ∷ older) before
  pub step : line.did.step ≡ c.did.step
  pub port : line.port ≡ c.port
  pub own : PeerId
  pub deed : line.did.deed ≡ Acts (Back own)
  pub own_is : own.0 ≡ node_of c

-- so does who stands, on a network with other members; each of them is asked
abbrev pub AsksAll : Setting → List Line → Type 0
AsksAll setting world = (c : Line) (older : List Line) → StandsAt c older world → (p : PeerId) →
    is_among p (setting.members (setting.net (node_of c) c.port)) ≡ true → (p.0 == node_of c) ≡ false → BacksOwn c older world × AsksPeer c older world p

-- in each possible run
abbrev pub RunsAsk : Type 0
RunsAsk = (header : HeaderValue) (setting : Setting) (events : List Event) → SetBy header setting → Possible header events → AsksAll setting (run header events)

-- by any clocks
abbrev pub ClockedRunsAsk : Type 0
ClockedRunsAsk = (clocks : Clocks) (header : HeaderValue) (setting : Setting) (events : List Event) → SetByClocks clocks header setting →
    PossibleBy clocks header events → AsksAll setting (run_by clocks header events)
