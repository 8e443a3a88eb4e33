-- A daemon of the network, from its start on: what it has been told, and its session.
use Rattle.std.specs.Prelude.{◌≡◌, ℕ, ◌+◌, ◌<◌, ℤ, true, if◌then◌else◌, List, [], ◌∷◌, ◌++◌, length, map, Option}
use Rattle.tsp_base.specs.Words.{HeaderValue, has_member}
use Rattle.tsp_args.specs.{Serves.IsServe, declared.serve.ServeWords.ServeWords}
use Rattle.tsp_io.specs.{Links.Arrival, declared.addr.Addr.Addr}
use Rattle.tsp_query.specs.{Ends.Outside, Outside.after_bind}
use Rattle.tsp_rules.specs.{GateRows.boots_all, Values.Placed}
use Rattle.tsp_run.specs.{Clocked.Clocks, Networks.networks, Setup.node_line}
use Rattle.tsp_daemon.specs.Nodes.{booting, daemon_config, is_strict, may_be}
use Rattle.tsp_daemon.specs.{Serving.first_session, Sessions.Session, Sessions.acts_in_turn, Sessions.after_turns}
use Rattle.tsp_network.specs.Rosters.{others_in}

-- the daemons of a network, one for each node of a header, which has their names and networks; what its lines say of clocks means nothing here
pub record Daemons : Type 0 where
  pub header : HeaderValue
  -- each node's counter at each true time, and its wall clock in each of its lives
  pub clocks : Clocks
  -- the arguments with which each node's daemon is started
  pub words : ℕ → ServeWords
  -- the address by which node m is reached on network k
  pub address : ℕ → ℕ → Addr
  -- for each event that starts a daemon, its node's tick when the counter that the daemon reads was at 0
  pub origin : ℕ → ℕ
  -- for each event, what the daemon's counter says when the turn begins, before the daemon waits
  pub early : ℕ → ℕ
  -- for each event, after how many of the turn's sends the daemon ended in it, if it did: killed, or out of memory
  pub tries : ℕ → Option ℕ

-- the addresses of the other members of each network that node n is on: one list for each of its ports. These networks have the numbers from k on
abbrev pub addresses : (ℕ → ℕ → Addr) → ℕ → ℕ → List (List ℕ) → List (List Addr)
addresses at n k [] = []
addresses at n k (net ∷ rest) = if has_member n net then map (at k) (others_in n net) ∷ addresses at n (k + 1) rest else addresses at n (k + 1) rest

-- node n's daemon is started with arguments that `serve` takes, and with its node's name and networks; its peers stand in the order of the nodes;
-- and if it may be master, it is elected as the header says
pub record IsStarted (d : Daemons) (n : ℕ) : Type 0 where
  pub serves : IsServe (d.words n)
  pub name : (d.words n).name ≡ (node_line d.header n).name
  pub may : may_be (d.words n).candidacy ≡ (node_line d.header n).may
  pub strict : may_be (d.words n).candidacy ≡ true → is_strict (d.words n).candidacy ≡ d.header.strict
  pub ports : (d.words n).ports ≡ addresses d.address n 0 (networks d.header)

-- each of them is
abbrev pub AreStarted : Daemons → Type 0
AreStarted d = (n : ℕ) → n < length d.header.nodes → IsStarted d n

-- the life of a daemon: its node's tick when its counter was at 0, how many datagrams the network had sent when it began, its wall clock and
-- its boot word then, and all that it was told since, the oldest first: what came in each turn, and each tick that it read
pub record Life : Type 0 where
  pub origin : ℕ
  pub sent_before : ℕ
  pub wall : ℤ
  pub word : ℕ
  pub arrivals : List Arrival
  pub readings : List ℕ

-- all that is told of the outside in this life
abbrev pub outside_of : Life → Outside
outside_of life = record { arrivals = life.arrivals; tried = []; calls = 0; readings = life.readings; last = 0 }

-- the daemon's session, as `serve` promises it once its link is bound, after so many turns
abbrev pub session_after : ℕ → ServeWords → Life → Session
session_after turns s life = after_turns turns (first_session s (after_bind (outside_of life)) life.wall life.word [])

-- the daemon's session now: each thing that came was a turn's
abbrev pub session_of : ServeWords → Life → Session
session_of s life = session_after (length life.arrivals) s life

-- what is told in one turn more: what came, and the two ticks that are read, before the wait and after it
abbrev pub turn_told : Arrival → ℕ → ℕ → Life → Life
turn_told arrival early tick life = record life { arrivals = life.arrivals ++ arrival ∷ []; readings = life.readings ++ early ∷ tick ∷ [] }

-- the acts of a turn: of the life with it, at the turn that was the next before
abbrev pub turn_acts : ServeWords → Life → Life → List Placed
turn_acts s before now = acts_in_turn (session_after (length before.arrivals) s now)

-- the acts with which a daemon begins
abbrev pub first_acts : ServeWords → ℕ → ℤ → ℕ → List Placed
first_acts s tick wall word = boots_all tick (booting (daemon_config s) tick wall word)
