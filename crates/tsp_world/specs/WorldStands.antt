-- Which schedules a world stands for: its header, and the events that it accepted.
use Rattle.std.specs.Prelude.{◌≡◌, ℕ, ◌+◌, ◌≤◌, Bool, true, false, List, [], ◌∷◌, ◌++◌, ◌<◌, length, Option, None, Some, is_some, slice_get, All, vec_len}
use Rattle.tsp_base.specs.Words.{HeaderValue, Cause, Line, of, dids, up, tick_at}
use Rattle.tsp_base.specs.declared.event.EventFault.{EventFault}
use Rattle.tsp_gateway.specs.{Dues.RestsUntil, GatewayStands.GatewayBegun, GatewayStands.GatewayStands, declared.gateway.Gateway.Gateway}
use Rattle.tsp_rules.specs.{NodeRows.NodePast, NodeRows.NodeRow, Values.Placed, Values.Event}
use Rattle.tsp_world.specs.declared.world.World.{World}
use Rattle.tsp_run.specs.{Networks.networks, Networks.ports_on, Networks.room, Ranges.IsInRange, declared.posted.Posted.Posted}
use Rattle.tsp_run.specs.Refusals.{Scene, Valid, scene, refusal, IsRefusal}
use Rattle.tsp_run.specs.Run.{run, posts, last_at, gained, event_at, happening, steps, posts_from, told_from}
use Rattle.tsp_run.specs.Setup.{node_line, past_of, rests}
use Rattle.tsp_networks.specs.Sheets.{acts_on}

-- a place of the world's nodes has a node that is up and stands for its past, or one that hasn't booted
abbrev pub PlaceStands : HeaderValue → List Line → ℕ → Option Gateway → Type 0
PlaceStands header history n (Some node) = (up (dids (of n history)) ≡ true) × GatewayStands (past_of header (rests n) history) node
PlaceStands header history n None = up (dids (of n history)) ≡ false

-- a place whose node is up and stands for this past
abbrev pub UpStands : NodePast → Option Gateway → Type 0
UpStands past None = ⊥
UpStands past (Some node) = GatewayStands past node

-- a place whose node is up, and whose step has just begun
abbrev pub UpBegun : NodePast → Option Gateway → Type 0
UpBegun past None = ⊥
UpBegun past (Some node) = GatewayBegun past node

-- whether a place of the world's nodes has a node that is up
abbrev pub is_node : Option (Option Gateway) → Bool
is_node None = false
is_node (Some place) = is_some place

abbrev pub up_at : List (Option Gateway) → ℕ → Bool
up_at places n = is_node (slice_get places n)

-- what refusals depend on, as the world has it
abbrev pub scene_of : World → Scene
scene_of world = record {
  nodes = vec_len world.nodes;
  networks = networks world.header;
  last = world.last;
  events = world.events;
  posts = world.sent.items;
  up = up_at world.nodes.items;
}

-- a world stands for a header and the events that it accepted, the newest first
pub record WorldStands (header : HeaderValue) (events : List Event) (world : World) : Type 0 where
  pub header_is : world.header ≡ header
  pub ranges : All IsInRange events
  pub valid : Valid header events
  pub count : world.events ≡ length events
  pub last : world.last ≡ last_at events
  pub sent : world.sent.items ≡ posts (run header events)
  pub lines : world.lines.items ≡ gained header events
  pub places : length world.nodes.items ≡ length header.nodes
  pub nodes : (n : ℕ) (place : Option Gateway) → slice_get world.nodes.items n ≡ Some place → PlaceStands header (run header events) n place
  pub nobody : (n : ℕ) → length header.nodes ≤ n → up (dids (of n (run header events))) ≡ false

-- there is so much room on the desk for a step's acts, and in the list for its posts
pub record IsReady (wanted : ℕ) (world : World) : Type 0 where
  pub desk : wanted ≤ world.desk.spare
  pub idle : acts_on world.desk ≡ []
  pub sent : wanted ≤ world.sent.spare

-- a step of this node at this time, in microseconds, passes no limit: of time, of events and of posts
pub record CanStep (at node : ℕ) (world : World) : Type 0 where
  pub time : at ≤ 1000000000000000
  pub order : world.last ≤ at
  pub events : world.events < 200000
  pub posts : length world.sent.items + room (ports_on node (networks world.header)) ≤ 1000000

-- the world still stands for all that it stood for
abbrev pub Stays : World → World → Type 0
Stays old new = (header : HeaderValue) (events : List Event) → WorldStands header events old → WorldStands header events new

-- an event has happened
abbrev pub HappensInWorld : Event → World → World → Type 0
HappensInWorld e old new = (header : HeaderValue) (events : List Event) → WorldStands header events old → refusal (scene header events) e ≡ None →
    WorldStands header (e ∷ events) new

-- nothing refuses an event, and it has happened
abbrev pub Occurs : Event → World → World → Type 0
Occurs e old new = (header : HeaderValue) (events : List Event) → WorldStands header events old → (refusal (scene header events) e ≡ None) ×
    WorldStands header (e ∷ events) new

-- an event has not happened, for its cause or if out of memory
abbrev pub Declines : Event → World → World → EventFault → Type 0
Declines e old new fault = (header : HeaderValue) (events : List Event) → WorldStands header events old → IsRefusal (refusal (scene header events) e) fault ×
    WorldStands header events new

-- a step of a node that is up has happened by this row, whatever event it was and for whatever cause
abbrev pub HappensBy : NodeRow → ℕ → ℕ → World → World → Type 0
HappensBy row at node old new =
    (cause : Cause) (header : HeaderValue) (events : List Event) (e : Event) → WorldStands header events old → event_at e ≡ at → IsInRange e →
    refusal (scene header events) e ≡ None → up_at old.nodes.items node ≡ true →
    happening header (run header events) e ≡ Some (steps header (run header events) row (record { at = at; node = node; cause = cause })) →
    WorldStands header (e ∷ events) new

-- nothing of a node is due before this tick, if the node is up
abbrev pub RestsFor : ℕ → ℕ → World → Type 0
RestsFor n due world = (node : Gateway) → slice_get world.nodes.items n ≡ Some (Some node) → RestsUntil due node

-- and that tick is later than a true time
abbrev pub Idles : ℕ → ℕ → World → Type 0
Idles at n world = (due : ℕ) × RestsFor n due world × (tick_at (node_line world.header n).rate at < due)

-- the acts on the desk can be noted: there is room, and no limit is met
pub record CanNote (world : World) : Type 0 where
  pub sent : length (acts_on world.desk) ≤ world.sent.spare
  pub few_events : world.events < 200000
  pub few_posts : length world.sent.items + length (acts_on world.desk) ≤ 1000000

-- a world with this header, these nodes, so many events and these posts has noted an event at this time: its acts as lines and as posts
pub record Notes (at node tick : ℕ) (header : HeaderValue) (nodes : List (Option Gateway)) (events : ℕ) (sent : List Posted) (acts : List Placed) (new : World)
    : Type 0 where
  pub header_is : new.header ≡ header
  pub nodes_are : new.nodes.items ≡ nodes
  pub events_are : new.events ≡ events + 1
  pub last_is : new.last ≡ at
  pub sent_is : new.sent.items ≡ sent ++ posts_from at node acts
  pub lines_are : new.lines.items ≡ told_from (events + 1) node tick (length sent) acts

-- an event was noted at which no node acts
pub record Passes (at : ℕ) (old new : World) : Type 0 where
  pub header : new.header ≡ old.header
  pub nodes : new.nodes ≡ old.nodes
  pub events : new.events ≡ old.events + 1
  pub last : new.last ≡ at
  pub sent : new.sent ≡ old.sent
  pub lines : new.lines.items ≡ []
