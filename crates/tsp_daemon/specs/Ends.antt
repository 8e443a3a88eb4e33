-- How a daemon's session ends, and what is then sent and written.
use Rattle.std.specs.Prelude.{◌≡◌, ◌⊎◌, ℕ, ◌+◌, ◌<◌, ◌≤◌, List, ◌++◌, length, take, Option, Some}
use Rattle.std.specs.Option.{option_map}
use Rattle.tsp_codec.specs.Taken.{taken_of}
use Rattle.tsp_gateway.specs.{GatewayStands.GatewayStands, declared.gateway.Gateway.Gateway}
use Rattle.tsp_io.specs.{Links.Arrival, Links.Tried, Streams.Grows, declared.link.Link.Ghosts as LinkOf, declared.link.Recv.Recv}
use Rattle.tsp_io.specs.declared.link.Recv.TheVariants.{Datagram}
use Rattle.tsp_query.specs.{Ends.Outside, Ends.KnowsExactly, Outside.Paged}
use Rattle.tsp_rules.specs.{GateRows.NodeGiven, GateRows.NodeTurn, GateRows.GotOn, NodeRows.NodePast, NodeRows.PortSetup}
use Rattle.tsp_daemon.specs.declared.end.ServeEnd.TheVariants.{Done, LinkFault, WriteFault, OutOfMemory}
use Rattle.tsp_daemon.specs.{Pages.MarksIfTold, Posts.sends_of, Waits.NotesWaits, declared.counters.Counters.Counters, declared.end.ServeEnd.ServeEnd}
use Rattle.tsp_daemon.specs.Sessions.{Session, port_from, acts_in_turn, shown_by_turn, turned, after_turns, unheard, waited, Rises}

-- what a node with these ports is given by the answer of a receive
abbrev pub given_by : List PortSetup → Recv → List ℕ → NodeGiven
given_by ports (Datagram from count) octets = GotOn (port_from ports from) from (taken_of (take count octets))
given_by ports _ octets = NodeTurn

-- a receive counts no more octets than the buffer has
abbrev pub IsCount : Recv → ℕ → Type 0
IsCount (Datagram from count) room = count ≤ room
IsCount _ room = Unit {0}

-- all of these sends were tried, after those before
abbrev pub TriesAll : List Tried → Option (List Tried) → Option (List Tried) → Type 0
TriesAll sends tried more = more ≡ option_map (λ ts. ts ++ sends) tried

-- of these sends the first ones were tried, maybe none, and not all
abbrev pub TriesSome : List Tried → Option (List Tried) → Option (List Tried) → Type 0
TriesSome sends tried more = (part : List Tried) × (rest : List Tried) × (0 < length rest) × (sends ≡ part ++ rest) × TriesAll part tried more

-- a call that only sends leaves the rest of its link as it was, and the count of failed sends doesn't fall
pub record OnlySends {L : Type 0} (links : LinkOf L) (before now : L) : Type 0 where
  pub arrivals : links.arrivals now ≡ links.arrivals before
  pub calls : links.calls now ≡ links.calls before
  pub stranger : links.stranger now ≡ links.stranger before
  pub binds : links.binds now ≡ links.binds before
  pub waits : links.waits now ≡ links.waits before
  pub faults : links.faults now ≡ links.faults before
  pub sends : links.send_faults before ≤ links.send_faults now

-- of this text the beginning was written, and not all
abbrev pub CutsShort : List ℕ → Option (List ℕ) → Option (List ℕ) → Type 0
CutsShort text written now = (part : List ℕ) × (rest : List ℕ) × (0 < length rest) × (text ≡ part ++ rest) × Grows written now part

-- how much of a text was written if its writing ends so: not all of it
abbrev pub TellsUntil : List ℕ → Option (List ℕ) → Option (List ℕ) → ServeEnd → Type 0
TellsUntil text written now Done = ⊥
TellsUntil text written now LinkFault = ⊥
TellsUntil text written now WriteFault = CutsShort text written now
TellsUntil text written now OutOfMemory = CutsShort text written now

-- how far it came if sends, and after them the writing of a text, end so
abbrev pub FinishesUntil : List Tried → List ℕ → Option (List Tried) → Option (List Tried) → Option (List ℕ) → Option (List ℕ) → ServeEnd → Type 0
FinishesUntil sends text tried more written now OutOfMemory = (TriesSome sends tried more × (now ≡ written)) ⊎
    (TriesAll sends tried more × CutsShort text written now)
FinishesUntil sends text tried more written now end = TriesAll sends tried more × TellsUntil text written now end

-- the node stands for some past: it is in the state that this past gives
pub record Lives (node : Gateway) : Type 0 where
  pub past : NodePast
  pub stands : GatewayStands past node

-- the node, its counts, and what the link, the ticker and the sink hold are those of this session
pub record IsAt (s : Session) (node : Gateway) (counters : Counters) (arrivals : Option (List Arrival)) (tried : Option (List Tried)) (calls : Option ℕ)
    (readings : Option (List ℕ)) (last : ℕ) (written : Option (List ℕ)) : Type 0 where
  pub stands : GatewayStands s.past node
  pub turns_is : counters.turns ≡ s.turns
  pub posts_is : counters.posts ≡ s.posts
  pub tells : KnowsExactly s.outside arrivals tried calls readings last
  pub written_is : written ≡ Some s.written

-- the outside in a turn after the first of its sends were tried: it has waited, and taken what came
abbrev pub tried_some : List Tried → Session → Outside
tried_some part s = record (waited s.outside) { tried = s.outside.tried ++ part }

-- the turn after this session ends the daemon so. Done never comes of a turn. Out of memory comes at one of three
-- places: before the turn did anything; at a send, after those before it were tried; or within a line
abbrev pub EndsTurn : Session → Option (List Arrival) → Option (List Tried) → Option ℕ → Option (List ℕ) → ℕ → Option (List ℕ) → ServeEnd → Type 0
EndsTurn s arrivals tried calls readings last written Done = ⊥
EndsTurn s arrivals tried calls readings last written LinkFault = KnowsExactly (unheard s.outside) arrivals tried calls readings last ×
    (written ≡ Some s.written)
EndsTurn s arrivals tried calls readings last written WriteFault = KnowsExactly (turned s).outside arrivals tried calls readings last ×
    CutsShort (shown_by_turn s) (Some s.written) written
EndsTurn s arrivals tried calls readings last written OutOfMemory =
    (KnowsExactly s.outside arrivals tried calls readings last × (written ≡ Some s.written))
    ⊎ ((part : List Tried) × (rest : List Tried) × (0 < length rest) × (sends_of (acts_in_turn s) ≡ part ++ rest) ×
    KnowsExactly (tried_some part s) arrivals tried calls readings last × (written ≡ Some s.written))
    ⊎ (KnowsExactly (turned s).outside arrivals tried calls readings last × CutsShort (shown_by_turn s) (Some s.written) written)

-- how many receives a session makes that ends so after i turns: one for each turn, and one for the turn that ended it,
-- unless it ran out of memory before the receive
abbrev pub IsReceived : ℕ → ℕ → ServeEnd → Type 0
IsReceived i received Done = received ≡ i
IsReceived i received OutOfMemory = (received ≡ i) ⊎ (received ≡ i + 1)
IsReceived i received end = received ≡ i + 1

-- a session of so many turns ends so after i of them: all were taken, or the next one ended it
abbrev pub ServesUntil : ℕ → ℕ → Session → Option (List Arrival) → Option (List Tried) → Option ℕ → Option (List ℕ) → ℕ → Option (List ℕ) → ServeEnd → Type 0
ServesUntil turns i s arrivals tried calls readings last written Done = (i ≡ turns) ×
    KnowsExactly (after_turns i s).outside arrivals tried calls readings last × (written ≡ Some (after_turns i s).written)
ServesUntil turns i s arrivals tried calls readings last written end = (i < turns) × EndsTurn (after_turns i s) arrivals tried calls readings last written end

-- after how many turns a session of so many ends, and how; the ticks of its steps never fell; how many receives it made, each of which waited
-- as long as its turn says; and what it wrote on its page
abbrev pub Serves : ℕ → Session → Option (List Arrival) → Option (List Tried) → Option ℕ → Option (List ℕ) → ℕ → Option (List ℕ) → Option (List ℕ) →
    Option (List ℕ) → Paged → Paged → ServeEnd → Type 0
Serves turns s arrivals tried calls readings last written waits waits_now paged now end =
    (i : ℕ) × (received : ℕ) × ServesUntil turns i s arrivals tried calls readings last written end × Rises i s × IsReceived i received end ×
    NotesWaits s received waits waits_now × MarksIfTold paged s i calls now end
