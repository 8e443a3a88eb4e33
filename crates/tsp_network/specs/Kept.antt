-- What is promised of every network of daemons, by which addresses its daemons know each other, and which runs of the rules are a network.
use Rattle.std.specs.Prelude.{◌≡◌, ◌==◌, ℕ, ◌&&◌, List, ◌++◌, length, map, filter, drop, take, None, Some, slice_get, ◌≢◌, true, ◌<◌, ◌≤◌, [], ◌∷◌}
use Rattle.tsp_codec.specs.Canon.{canon}
use Rattle.tsp_run.specs.{Networks.networks, Networks.network_at, Premised.KeptByText, Promises.Promises, declared.address.Address.Address}
use Rattle.tsp_run.specs.{declared.posted.Posted.Posted}
use Rattle.tsp_run.specs.Clocked.{KeptByEvents, PossibleBy, SetByClocks, clocks_of, run_by}
use Rattle.tsp_run.specs.{Run.posts, Run.run, Setting.SetBy}
use Rattle.tsp_rules.specs.Guards.{is_clock_value}
use Rattle.tsp_promises.specs.Setting.{Setting}
use Rattle.tsp_rules.specs.{Renames.renamed_place, Values.Event, Values.Port, Values.BootAt, Values.Bytes, Values.Take, Values.Turn}
use Rattle.tsp_io.specs.Links.{Arrival, Tried}
use Rattle.tsp_daemon.specs.Posts.{sends_of}
use Rattle.tsp_network.specs.Lives.{Daemons, Life, session_of, turn_acts, turn_told, IsStarted, AreStarted}
use Rattle.tsp_network.specs.{Events.IsNetwork, Events.MayCome, Rosters.renaming_on, Rosters.destination, Rosters.neighbours_on, Rosters.number_for}
use Rattle.tsp_network.specs.Networks.{Network, Sent, network, daemon_tick, next_life, node_wall, turned_to}
use Rattle.tsp_base.specs.Words.{Step, has_member}
use Rattle.tsp_daemon.specs.Serving.{serving_binding}

-- a send is that of a post: of its octets, by its node, to its addressee
pub record IsSent (d : Daemons) (s : Sent) (p : Posted) : Type 0 where
  pub from : s.from ≡ p.from
  pub to : renamed_place (renaming_on (networks d.header) s.from 0 p.port) s.tried.0 ≡ p.to
  pub octets : s.tried.1 ≡ canon p.datagram

-- what node n has tried to send of these, in the numbers of its daemon
abbrev pub tried_by : ℕ → List Sent → List Tried
tried_by n sent = map (λ s. s.tried) (filter (λ s. s.went && (s.from == n)) sent)

-- a daemon that has come to the one life takes its last turn at the next event, with which it comes to the other: since its start it has tried
-- what its session had tried before, and the first m sends of that turn
abbrev pub TriesFirst : Daemons → List Event → Step → Life → Life → ℕ → Type 0
TriesFirst d before step life now m =
    tried_by step.node (drop life.sent_before (turned_to d (length before) step life now (network d before)).sent)
    ≡ (session_of (d.words step.node) life).outside.tried ++ take m (sends_of (turn_acts (d.words step.node) life now))

-- what the daemons of a network did is the run of its events by its clocks: to the act, and with what they sent; and so it keeps the promises,
-- each under its premises
pub record NetworkKept (d : Daemons) (setting : Setting) (events : List Event) : Type 0 where
  pub runs : (network d events).history ≡ run_by d.clocks d.header events
  pub count : length (network d events).sent ≡ length (posts (run_by d.clocks d.header events))
  pub sends : (k : ℕ) (s : Sent) (p : Posted) → slice_get (network d events).sent k ≡ Some s →
      slice_get (posts (run_by d.clocks d.header events)) k ≡ Some p → IsSent d s p
  -- what a daemon that runs has tried, as its session has it, is what the network has of it since it started
  pub tried : (n : ℕ) (life : Life) → (network d events).lives n ≡ Some life →
      (session_of (d.words n) life).outside.tried ≡ tried_by n (drop life.sent_before (network d events).sent)
  -- a daemon that ends in its next turn, after m of its sends, has tried those
  pub ended : (step : Step) (life : Life) (arrival : Arrival) (early tick m : ℕ) → (network d events).lives step.node ≡ Some life →
      d.tries (length events) ≡ Some m → TriesFirst d events step life (turn_told arrival early tick life) m
  pub promises : Promises setting (network d events).history
  pub premises : KeptByEvents d.clocks d.header events

-- every network of daemons keeps the promises, by any clocks whose counters stay within the drift
abbrev pub NetworksKeepPromises : Type 0
NetworksKeepPromises =
    (d : Daemons) (setting : Setting) (events : List Event) → IsNetwork d events → SetByClocks d.clocks d.header setting → NetworkKept d setting events

-- where the clocks are those of the header's lines, the history is the run of a schedule
pub record ScheduleKept (d : Daemons) (setting : Setting) (events : List Event) : Type 0 where
  pub kept : NetworkKept d setting events
  pub runs : (network d events).history ≡ run d.header events
  pub premises : KeptByText d.header events

-- every network whose daemons have such clocks keeps the promises so
abbrev pub SchedulesAreKept : Type 0
SchedulesAreKept =
    (d : Daemons) (setting : Setting) (events : List Event) → IsNetwork d events → d.clocks ≡ clocks_of d.header → SetBy d.header setting →
    ScheduleKept d setting events

-- the number by which the daemon of node n knows node m, on a port that is on network k, is the place of m's address on that network among the
-- addresses to which the daemon binds its link. So a link that takes an address for its place takes senders for whom they are
abbrev pub NumbersAreAddresses : Type 0
NumbersAreAddresses =
    (d : Daemons) (n : ℕ) (q : Port) (k m : ℕ) → IsStarted d n → network_at n q (networks d.header) ≡ Some k →
    has_member m (neighbours_on n q.0 (networks d.header)) ≡ true → m ≢ n →
    slice_get (serving_binding (d.words n)).peers (number_for n q.0 m (networks d.header)) ≡ Some (d.address k m)

-- the daemon that runs on node n, if one does, has taken fewer turns than its arguments say
abbrev pub HasTurn : Daemons → Network → ℕ → Type 0
HasTurn d w n = (life : Life) → w.lives n ≡ Some life → length life.arrivals < (d.words n).turns

-- daemons do what a node does at event k: if it starts, after its counter does, and with a wall clock that a daemon takes; and else with a turn
-- that is left to it; and if octets are handed to it, a daemon can take them so
abbrev pub Suits : Daemons → ℕ → Network → Event → Type 0
Suits d k w (BootAt at node word) = (d.origin k ≤ daemon_tick d node at) × (is_clock_value (node_wall d node (next_life w node) at) ≡ true)
Suits d k w (Turn at node) = HasTurn d w node
Suits d k w (Take at number) =
    (s : Sent) (a : Address) → slice_get w.sent number ≡ Some s → destination (networks d.header) s.from s.tried.0 ≡ Some a → HasTurn d w a.node
Suits d k w (Bytes at node port from octets) = MayCome (networks d.header) node port from × (length octets ≤ 512) × HasTurn d w node

-- at each of these events, the newest of which comes first
abbrev pub AllSuit : Daemons → List Event → Type 0
AllSuit d [] = Unit {0}
AllSuit d (e ∷ before) = Suits d (length before) (network d before) e × AllSuit d before

-- all possible events that suit daemons which are started as their header says and don't end in a turn are a network's, and no events are
-- that are impossible or don't suit
pub record RunsAreNetworks : Type 0 where
  pub all : (d : Daemons) (events : List Event) → AreStarted d → ((k : ℕ) → d.tries k ≡ None) → AllSuit d events → PossibleBy d.clocks d.header events →
      IsNetwork d events
  pub only : (d : Daemons) (events : List Event) → IsNetwork d events → AllSuit d events × PossibleBy d.clocks d.header events
