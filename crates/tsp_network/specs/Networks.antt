-- A network of daemons: what they do at the events of true time, and what all of them have done.
use Rattle.std.specs.Prelude.{ℕ, zero, suc, Bool, true, false, ◌+◌, ◌-◌, ◌==◌, ℤ, pos, ◌+ℤ◌, if◌then◌else◌, List, [], ◌∷◌, ◌++◌, length, map, Option, None}
use Rattle.std.specs.Prelude.{Some, slice_get}
use Rattle.tsp_rules.specs.Values.{Placed, Event, BootAt, Turn, Take, Bytes, Peer}
use Rattle.tsp_base.specs.Words.{Turned, Came, Handed, Step, Line, dids, lives, of, peer_of, stepped}
use Rattle.tsp_rules.specs.Renames.{renamed_act}
use Rattle.tsp_io.specs.Links.{Arrival, Tried}
use Rattle.tsp_daemon.specs.Posts.{sends_of}
use Rattle.tsp_run.specs.{Clocked.boot_by, Clocked.tick_by, Networks.networks, declared.address.Address.Address}
use Rattle.tsp_network.specs.Lives.{Daemons, Life, first_acts, turn_told, turn_acts}
use Rattle.tsp_network.specs.Rosters.{destination, renaming_on, sender_for}

-- a send of node `from`: to whom, in the numbers of its daemon, and the octets; and whether it was tried, since a daemon may end in the
-- middle of a turn's sends
pub record Sent : Type 0 where
  pub from : ℕ
  pub tried : Tried
  pub went : Bool

-- how far a network has come
pub record Network : Type 0 where
  -- the daemon that runs on a node, if one does
  pub lives : ℕ → Option Life
  -- all sends of any of them, the oldest first; each has its place here as its number
  pub sent : List Sent
  -- what all of them did, the newest first, in the numbers of the nodes
  pub history : List Line

-- before the first event no daemon runs
abbrev pub nothing_yet : Network
nothing_yet = record { lives = λ n. None; sent = []; history = [] }

-- acts of a daemon, in the numbers of the nodes and in the ticks of its node
abbrev pub named_act : List (List ℕ) → ℕ → ℕ → Placed → Placed
named_act nets n origin p = record { port = p.port; act = renamed_act (renaming_on nets n origin p.port) p.act }

abbrev pub named_acts : List (List ℕ) → ℕ → ℕ → List Placed → List Placed
named_acts nets n origin = map (named_act nets n origin)

-- a send of node n that was tried
abbrev pub sent_by : ℕ → Tried → Sent
sent_by n t = record { from = n; tried = t; went = true }

-- one that wasn't, since its daemon ended before
abbrev pub unsent : Sent → Sent
unsent s = record s { went = false }

-- sends of which the first so many were tried
abbrev pub first_sent : ℕ → List Sent → List Sent
first_sent zero ss = map unsent ss
first_sent (suc m) [] = []
first_sent (suc m) (s ∷ rest) = s ∷ first_sent m rest

-- the sends of a turn: all were tried, unless the daemon ended after so many
abbrev pub sent_until : Option ℕ → List Sent → List Sent
sent_until None ss = ss
sent_until (Some m) ss = first_sent m ss

-- the life after a turn, if the daemon didn't end in it
abbrev pub life_until : Option ℕ → Life → Option Life
life_until None life = Some life
life_until (Some m) life = None

-- this life is node n's, if there is one; all others are as they were
abbrev pub with_life : ℕ → Option Life → (ℕ → Option Life) → ℕ → Option Life
with_life n life lives m = if m == n then life else lives m

-- a daemon puts these acts in a step of event k, and has come to this life, or has ended in that turn
abbrev pub acted : Daemons → ℕ → Step → Life → List Placed → Network → Network
acted d k step life acts w = record {
  lives = with_life step.node (life_until (d.tries k) life) w.lives;
  sent = w.sent ++ sent_until (d.tries k) (map (sent_by step.node) (sends_of acts));
  history = stepped step (tick_by d.clocks step) (named_acts (networks d.header) step.node life.origin acts) w.history;
}

-- the tick of node n's counter at a true time
abbrev pub daemon_tick : Daemons → ℕ → ℕ → ℕ
daemon_tick d n at = d.clocks.tick n at

-- the number of the life that begins next on node n; the first has number 1
abbrev pub next_life : Network → ℕ → ℕ
next_life w n = lives (dids (of n w.history)) + 1

-- node n's wall clock in a life, at a true time
abbrev pub node_wall : Daemons → ℕ → ℕ → ℕ → ℤ
node_wall d n life at = d.clocks.wall n life +ℤ pos (daemon_tick d n at)

-- the life of a daemon that starts at event k in this network: it has read its first tick
abbrev pub life_from : Daemons → ℕ → ℕ → ℕ → ℕ → Network → Life
life_from d k at n word w = record {
  origin = d.origin k;
  sent_before = length w.sent;
  wall = node_wall d n (next_life w n) at;
  word = word;
  arrivals = [];
  readings = (daemon_tick d n at - d.origin k) ∷ [];
}

-- a daemon starts
abbrev pub starts : Daemons → ℕ → ℕ → ℕ → ℕ → Network → Network
starts d k at n word w =
    acted d k (boot_by d.clocks w.history at n word) (life_from d k at n word w)
    (first_acts (d.words n) (daemon_tick d n at - d.origin k) (node_wall d n (next_life w n) at) word) w

-- a daemon has taken a turn at event k, and come from one life to the other
abbrev pub turned_to : Daemons → ℕ → Step → Life → Life → Network → Network
turned_to d k step life now w = acted d k step now (turn_acts (d.words step.node) life now) w

-- a daemon that runs takes a turn, in which this comes
abbrev pub turns : Daemons → ℕ → Step → Arrival → Option Life → Network → Network
turns d k step arrival None w = w
turns d k step arrival (Some life) w = turned_to d k step life (turn_told arrival (d.early k) (tick_by d.clocks step - life.origin) life) w

-- a copy of a send, as it comes to a port: its octets, from the daemon that sent it
abbrev pub copy_at : List (List ℕ) → Address → Sent → Arrival
copy_at nets a s = Some (sender_for nets a.node a.port (Peer (peer_of s.from)), s.tried.1)

-- a copy of the send with this number comes to where it is addressed
abbrev pub delivers : Daemons → ℕ → ℕ → ℕ → Sent → Option Address → Network → Network
delivers d k at number s None w = w
delivers d k at number s (Some a) w = turns d k (record { at = at; node = a.node; cause = Came number }) (copy_at (networks d.header) a s) (w.lives a.node) w

-- the same, if there is such a send
abbrev pub takes_copy : Daemons → ℕ → ℕ → ℕ → Option Sent → Network → Network
takes_copy d k at number None w = w
takes_copy d k at number (Some s) w = delivers d k at number s (destination (networks d.header) s.from s.tried.0) w

-- event k: a daemon starts; it takes a turn in which nothing comes; a copy of a send comes to where it is addressed; or octets come that no
-- daemon of the network sent, or that seem to be a peer's
abbrev pub after_event : Daemons → ℕ → Event → Network → Network
after_event d k (BootAt at node word) w = starts d k at node word w
after_event d k (Turn at node) w = turns d k (record { at = at; node = node; cause = Turned }) None (w.lives node) w
after_event d k (Take at number) w = takes_copy d k at number (slice_get w.sent number) w
after_event d k (Bytes at node port from octets) w =
    turns d k (record { at = at; node = node; cause = Handed }) (Some (sender_for (networks d.header) node port from, octets)) (w.lives node) w

-- the network after these events, of which the newest comes first; they are counted from 0
abbrev pub network : Daemons → List Event → Network
network d [] = nothing_yet
network d (e ∷ before) = after_event d (length before) e (network d before)
