-- Runs by any clocks: as a schedule's run, but the ticks and the wall clocks of the nodes are given, and needn't be those of a header's lines.
use Rattle.std.specs.Prelude.{◌≡◌, ◌<◌, ◌≤◌, ◌^◌, ℕ, ◌+◌, ℤ, pos, ◌+ℤ◌, List, [], ◌∷◌, length, Option, None, Some, All, slice_get}
use Rattle.tsp_rules.specs.Values.{Event, BootAt, Turn, Take, Bytes, LIFE, NodeLine, Port}
use Rattle.tsp_rules.specs.GateRows.{NodeTurn, GotOn, answers_all, boots_all}
use Rattle.tsp_rules.specs.NodeRows.{NodeRow, in_node_step}
use Rattle.tsp_base.specs.Words.{HeaderValue, IsName, IsNet, nets_with, Booted, Turned, Came as TakesPost, Handed, Step, Line, of, view, dids, lives, tick_at}
use Rattle.tsp_base.specs.Words.{up}
use Rattle.tsp_codec.specs.Taken.{taken_of}
use Rattle.tsp_promises.specs.{Everywhere.Everywhere, Fits.Fits, Fits.Finished, Fits.node_of, Setting.KeepsTime, Setting.Network, Setting.Setting}
use Rattle.tsp_promises.specs.Premises.{Few, Honest, Life, NamesApart, OwnWords, Words}
use Rattle.tsp_run.specs.declared.{arrival.Arrival.Arrival, posted.Posted.Posted}
use Rattle.tsp_run.specs.Run.{Happening, arrives, joins, last_at, posts, run}
use Rattle.tsp_run.specs.{Networks.networks, Setup.node_line, Setup.past_of, Ranges.IsInRange, Refusals.Scene, Refusals.impossible, Promises.Promises}
use Rattle.tsp_run.specs.Premised.{Apart, NamesDiffer, Sealed, own_posts}
use Rattle.tsp_run.specs.Setting.{members_of, network_of}

-- each node's tick at each true time, and its wall clock at tick 0 in each of its lives, the first of which is number 1
pub record Clocks : Type 0 where
  pub tick : ℕ → ℕ → ℕ
  pub wall : ℕ → ℕ → ℤ

-- those of a header: each node has the rate and the wall clock of its line
abbrev pub clocks_of : HeaderValue → Clocks
clocks_of header = record { tick = λ n t. tick_at (node_line header n).rate t; wall = λ n life. (node_line header n).wall }

-- a node's tick at the true time of a step
abbrev pub tick_by : Clocks → Step → ℕ
tick_by clocks step = clocks.tick step.node step.at

-- a step of which the acts are those of this row
unfoldable pub steps_by : Clocks → HeaderValue → List Line → NodeRow → Step → Happening
steps_by clocks header history row step =
    let x = tick_by clocks step in
    record { step = step; tick = x; acts = row x (in_node_step step x (past_of header step history)) }

-- the step of a boot after this history: the wall clock then is that of the life which begins, at tick 0, and the tick
abbrev pub boot_by : Clocks → List Line → ℕ → ℕ → ℕ → Step
boot_by clocks history at node word =
    record { at = at; node = node; cause = Booted word (clocks.wall node (lives (dids (of node history)) + 1) +ℤ pos (clocks.tick node at)) }

-- what the coming of datagram k makes happen, if it reaches a node
abbrev pub reaches_by : Clocks → HeaderValue → List Line → ℕ → ℕ → Option Arrival → Option Happening
reaches_by clocks header history at k None = None
reaches_by clocks header history at k (Some a) =
    Some (steps_by clocks header history (answers_all (GotOn a.port a.from a.taken)) (record { at = at; node = a.node; cause = TakesPost k }))

-- what an event makes happen, if it makes a node act
abbrev pub happening_by : Clocks → HeaderValue → List Line → Event → Option Happening
happening_by clocks header history (BootAt at node word) = Some (steps_by clocks header history boots_all (boot_by clocks history at node word))
happening_by clocks header history (Turn at node) =
    Some (steps_by clocks header history (answers_all NodeTurn) (record { at = at; node = node; cause = Turned }))
happening_by clocks header history (Take at k) = reaches_by clocks header history at k (arrives (networks header) (slice_get (posts history) k))
happening_by clocks header history (Bytes at node port from octets) =
    Some (steps_by clocks header history (answers_all (GotOn port from (taken_of octets))) (record { at = at; node = node; cause = Handed }))

-- the history of these events by these clocks
abbrev pub run_by : Clocks → HeaderValue → List Event → List Line
run_by clocks header [] = []
run_by clocks header (e ∷ before) = joins (happening_by clocks header (run_by clocks header before) e) (run_by clocks header before)

-- by the clocks of its header it is the run of a schedule
abbrev pub RunsByOwnClocks : Type 0
RunsByOwnClocks = (header : HeaderValue) (events : List Event) → run_by (clocks_of header) header events ≡ run header events

-- what decides whether an event can happen after these
abbrev pub scene_by : Clocks → HeaderValue → List Event → Scene
scene_by clocks header before = record {
  nodes = length header.nodes;
  networks = networks header;
  last = last_at before;
  events = length before;
  posts = posts (run_by clocks header before);
  up = λ n. up (dids (of n (run_by clocks header before)));
}

-- each of these events can happen after those before it
abbrev pub HappensBy : Clocks → HeaderValue → List Event → Type 0
HappensBy clocks header [] = Unit {0}
HappensBy clocks header (e ∷ before) = (impossible (scene_by clocks header before) e ≡ None) × HappensBy clocks header before

-- a header sets nodes and their networks up, of which there may be as many as one likes: its drift is at most 1,000 parts in a million, the
-- names are valid, and no node is in more than 4 networks. What its lines say of clocks isn't asked for
pub record IsSetUp (header : HeaderValue) : Type 0 where
  pub small : header.drift ≤ 1000
  pub named : All (λ (line : NodeLine). IsName line.name) header.nodes
  pub nets_are : All (IsNet (length header.nodes)) header.nets
  pub few_ports : (n : ℕ) → nets_with n header.nets ≤ 4

-- clocks, a header and events, the newest first, that are possible: each node's counter keeps the header's drift, the events' values are in
-- their ranges, each event can happen, and the run posts fewer than 2^64 datagrams
pub record PossibleBy (clocks : Clocks) (header : HeaderValue) (events : List Event) : Type 0 where
  pub header_is : IsSetUp header
  pub keeps : (n : ℕ) → KeepsTime header.drift (clocks.tick n)
  pub ranges : All IsInRange events
  pub happens : HappensBy clocks header events
  pub few : length (posts (run_by clocks header events)) < 2 ^ 64

-- a setting has these clocks, and the drift, names and networks of the header, and its elections are strict if the header says so
pub record SetByClocks (clocks : Clocks) (header : HeaderValue) (setting : Setting) : Type 0 where
  pub tick_is : (n t : ℕ) → setting.tick n t ≡ clocks.tick n t
  pub wall_is : (n life : ℕ) → setting.wall n life ≡ clocks.wall n life
  pub name_is : (n : ℕ) → setting.name n ≡ (node_line header n).name
  pub drift_is : setting.drift ≡ header.drift
  pub strict_is : setting.strict ≡ header.strict
  pub net_is : (n : ℕ) (q : Port) → setting.net n q ≡ network_of (networks header) n q
  pub members_are : (k : Network) → setting.members k ≡ members_of (networks header) k

-- an event isn't a `take` of a datagram that was posted more than LIFE (30 s of true time) before it
abbrev pub IsPromptBy : Clocks → HeaderValue → List Event → Event → Type 0
IsPromptBy clocks header before (Take at k) = (p : Posted) → slice_get (posts (run_by clocks header before)) k ≡ Some p → at ≤ p.at + LIFE
IsPromptBy clocks header before _ = Unit {0}

-- no `take` comes more than LIFE after the event that posted its datagram
abbrev pub PromptBy : Clocks → HeaderValue → List Event → Type 0
PromptBy clocks header [] = Unit {0}
PromptBy clocks header (e ∷ before) = IsPromptBy clocks header before e × PromptBy clocks header before

-- the run posts fewer than 32,768 datagrams
abbrev pub ShortBy : Clocks → HeaderValue → List Event → Type 0
ShortBy clocks header events = length (posts (run_by clocks header events)) < 32768

-- each port has posted fewer than 32,768 messages with a number from 32,768 on in each life of its node
abbrev pub OwnShortBy : Clocks → HeaderValue → List Event → Type 0
OwnShortBy clocks header events =
    Everywhere (λ (l : Line) (before : List Line). own_posts (view l.port (of (node_of l) (l ∷ before))) < 32768) (run_by clocks header events)

-- each premise of the promises holds of a run by these clocks if its counterpart holds of the events, or of them and of what the run posts.
-- Honest and Words hold of a run only then, too
pub record KeptByEvents (clocks : Clocks) (header : HeaderValue) (events : List Event) : Type 0 where
  pub honest : Sealed events → Honest (run_by clocks header events)
  pub only_honest : Honest (run_by clocks header events) → Sealed events
  pub life : PromptBy clocks header events → Life (run_by clocks header events)
  pub words : Apart events → Words (run_by clocks header events)
  pub only_words : Words (run_by clocks header events) → Apart events
  pub own_words : Apart events → OwnWords (run_by clocks header events)
  pub few : ShortBy clocks header events → Few (run_by clocks header events)
  pub few_own : OwnShortBy clocks header events → Few (run_by clocks header events)
  pub names : (setting : Setting) → SetByClocks clocks header setting → NamesDiffer header → NamesApart setting (run_by clocks header events)

-- the history of possible events fits, by any clocks that keep the drift, and ends where a step ends
abbrev pub ClockedRunsFit : Type 0
ClockedRunsFit =
    (clocks : Clocks) (header : HeaderValue) (setting : Setting) (events : List Event) → SetByClocks clocks header setting → PossibleBy clocks header events →
    Fits setting (run_by clocks header events) × Finished setting (run_by clocks header events)

-- it keeps the promises
abbrev pub ClockedRunsKeepPromises : Type 0
ClockedRunsKeepPromises =
    (clocks : Clocks) (header : HeaderValue) (setting : Setting) (events : List Event) → SetByClocks clocks header setting → PossibleBy clocks header events →
    Promises setting (run_by clocks header events)

-- its premises hold if their counterparts hold of the events
abbrev pub ClockedRunsKeepPremises : Type 0
ClockedRunsKeepPremises = (clocks : Clocks) (header : HeaderValue) (events : List Event) → PossibleBy clocks header events → KeptByEvents clocks header events

-- clocks that keep a header's drift have a setting
abbrev pub ClocksAreSet : Type 0
ClocksAreSet =
    (clocks : Clocks) (header : HeaderValue) → IsSetUp header → ((n : ℕ) → KeepsTime header.drift (clocks.tick n)) → (setting : Setting) ×
    SetByClocks clocks header setting
