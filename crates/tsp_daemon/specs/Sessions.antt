-- A session of the daemon: what its node does turn after turn, what it sends, and what it shows.
use Rattle.std.specs.Prelude.{ℕ, zero, suc, ◌+◌, ◌≤◌, ◌||◌, List, ◌++◌, length, take, None, Some}
use Rattle.tsp_rules.specs.Values.{Placed, Place, Peer, Stranger, Port}
use Rattle.tsp_base.specs.Words.{Cause, Handed, Turned, dids, first_port, tracing}
use Rattle.tsp_codec.specs.Taken.{taken_of}
use Rattle.tsp_gateway.specs.PortOf.{port_of}
use Rattle.tsp_io.specs.{Counts.one_more, Links.Arrival}
use Rattle.tsp_query.specs.{Arrivals.next_arrival, Arrivals.all_but_first, Clocks.tick_given, Ends.Outside, Ends.after_wait}
use Rattle.tsp_rules.specs.GateRows.{NodeGiven, NodeTurn, GotOn, answers_all}
use Rattle.tsp_rules.specs.NodeRows.{NodePast, PortSetup, in_node_step, spread}
use Rattle.tsp_daemon.specs.Posts.{sends_of, shown_lines}

-- how far a session has come
pub record Session : Type 0 where
  -- the node's past
  pub past : NodePast
  -- the datagrams that will arrive and the ticks that will be read; the sends that were tried, and the number of calls
  pub outside : Outside
  -- how many turns were taken; the next one has this number plus one
  pub turns : ℕ
  -- how many datagrams were posted; the next one has this number
  pub posts : ℕ
  -- the octets written
  pub written : List ℕ

-- the port on which a node takes a datagram: from a peer, the lowest port that has it as another node's number; from a
-- stranger, port 0
abbrev pub port_from : List PortSetup → Place → Port
port_from ports (Peer p) = port_of p ports
port_from ports Stranger = first_port

-- what a node with these ports is given by an arrival, of which the first 512 octets are read
abbrev pub given_of : List PortSetup → Arrival → NodeGiven
given_of ports None = NodeTurn
given_of ports (Some (from, octets)) = GotOn (port_from ports from) from (taken_of (take 512 octets))

-- the tick counter is read once
abbrev pub read_once : Outside → Outside
read_once o = record o { readings = all_but_first o.readings; last = tick_given o.last o.readings 0 }

-- what is left if the receive of a turn fails, after the turn's first reading
abbrev pub unheard : Outside → Outside
unheard o = record (read_once o) { calls = one_more o.calls }

-- what is left when the node of a turn steps, after a reading, a receive and a second reading
abbrev pub waited : Outside → Outside
waited o = after_wait (read_once o)

-- the tick of a turn's step: the second reading
abbrev pub turn_tick : Session → ℕ
turn_tick s = (waited s.outside).last

-- what the node is given in a turn: the next arrival, or nothing
abbrev pub given_in : Session → NodeGiven
given_in s = given_of s.past.ports (next_arrival s.outside.arrivals)

-- the cause of a turn's step: octets were handed to the node, or it looks at its timers
abbrev pub turn_cause : NodeGiven → Cause
turn_cause NodeTurn = Turned
turn_cause (GotOn q from taken) = Handed

-- the node's past when the step of a turn begins, with this given to the node at this tick
abbrev pub turn_begun : NodeGiven → ℕ → NodePast → NodePast
turn_begun g x past = in_node_step (record { at = x; node = 0; cause = turn_cause g }) x past

-- the acts of a turn, each on its port: the node's answer to what came, at the tick of the second reading
abbrev pub acts_in_turn : Session → List Placed
acts_in_turn s = answers_all (given_in s) (turn_tick s) (turn_begun (given_in s) (turn_tick s) s.past)

-- the node's past after a turn
abbrev pub past_after : Session → NodePast
past_after s = spread (turn_tick s) (turn_begun (given_in s) (turn_tick s) s.past) (acts_in_turn s)

-- the text that a turn shows: the lines of its acts, if the trace was on before the turn or is on after it
abbrev pub shown_by_turn : Session → List ℕ
shown_by_turn s = shown_lines (tracing (dids s.past.lines) || tracing (dids (past_after s).lines)) (s.turns + 1) (turn_tick s) s.posts (acts_in_turn s)

-- the session after one turn more
abbrev pub turned : Session → Session
turned s = record {
  past = past_after s;
  outside = record (waited s.outside) { tried = s.outside.tried ++ sends_of (acts_in_turn s) };
  turns = s.turns + 1;
  posts = s.posts + length (sends_of (acts_in_turn s));
  written = s.written ++ shown_by_turn s;
}

-- the session after so many turns more
abbrev pub after_turns : ℕ → Session → Session
after_turns zero s = s
after_turns (suc n) s = turned (after_turns n s)

-- in each of so many turns the tick of the step wasn't below the last reading of the turn before
abbrev pub Rises : ℕ → Session → Type 0
Rises zero s = Unit {0}
Rises (suc n) s = Rises n s × ((after_turns n s).outside.last ≤ turn_tick (after_turns n s))
