-- The run of a schedule: its history, and its trace. Lists of events and of lines have the newest first.
use Rattle.std.specs.Prelude.{ℕ, ◌+◌, pos, ◌+ℤ◌, List, [], ◌∷◌, ◌++◌, length, Option, None, Some, slice_get}
use Rattle.tsp_rules.specs.Values.{Act, Post, Placed, Event, BootAt, Turn, Take, Bytes, Peer, Port}
use Rattle.tsp_base.specs.Words.{HeaderValue, Booted, Turned, Came as TakesPost, Handed, Step, Deed, Begins, Acts, Line, stepped, peer_of, tick_at}
use Rattle.tsp_codec.specs.{Canon.canon, Taken.taken_of}
use Rattle.tsp_rules.specs.GateRows.{NodeTurn, GotOn, answers_all, boots_all}
use Rattle.tsp_rules.specs.NodeRows.{NodeRow, in_node_step}
use Rattle.tsp_run.specs.declared.{arrival.Arrival.Arrival, line.Line.Line as ToldLine, posted.Posted.Posted}
use Rattle.tsp_run.specs.{Networks.networks, Networks.address_of, Setup.node_line, Setup.past_of, declared.address.Address.Address}

-- the true time of an event, in microseconds
abbrev pub event_at : Event → ℕ
event_at (BootAt at node word) = at
event_at (Turn at node) = at
event_at (Take at datagram) = at
event_at (Bytes at node port from octets) = at

-- the true time of the last event; 0 before the first
abbrev pub last_at : List Event → ℕ
last_at [] = 0
last_at (e ∷ before) = event_at e

-- the datagram that an act of a step posts on a port, if it posts one
abbrev pub posted_by : ℕ → ℕ → Port → Act → List Posted
posted_by at node port (Post to datagram) = record { at = at; from = node; port = port; to = to; datagram = datagram } ∷ []
posted_by at node port _ = []

-- the datagram that a deed posts on a port, if it posts one
abbrev pub posted_in : Port → Step → Deed → List Posted
posted_in port step Begins = []
posted_in port step (Acts a) = posted_by step.at step.node port a

-- the datagrams posted in a history, the oldest first; each has its place here, from 0, as its number
abbrev pub posts : List Line → List Posted
posts [] = []
posts (l ∷ before) = posts before ++ posted_in l.port l.did.step l.did.deed

-- the datagrams that these acts of a step post, in order
abbrev pub posts_from : ℕ → ℕ → List Placed → List Posted
posts_from at node [] = []
posts_from at node (p ∷ rest) = posted_by at node p.port p.act ++ posts_from at node rest

-- the true time of a post, if there is one
abbrev pub posted_time : Option Posted → Option ℕ
posted_time None = None
posted_time (Some p) = Some p.at

-- what an event makes its node do: a step, its tick, and its acts, each on its port
pub record Happening : Type 0 where
  pub step : Step
  pub tick : ℕ
  pub acts : List Placed

-- a node's tick at the true time of a step
abbrev pub step_tick : HeaderValue → Step → ℕ
step_tick header step = tick_at (node_line header step.node).rate step.at

-- a step of which the acts are those of this row
unfoldable pub steps : HeaderValue → List Line → NodeRow → Step → Happening
steps header history row step =
    let x = step_tick header step in
    record { step = step; tick = x; acts = row x (in_node_step step x (past_of header step history)) }

-- the step of a boot: the wall clock then is the node's wall clock at tick 0 and its tick
abbrev pub boot_step : HeaderValue → ℕ → ℕ → ℕ → Step
boot_step header at node word = record {
  at = at;
  node = node;
  cause = Booted word
      ((node_line header node).wall +ℤ pos (tick_at (node_line header node).rate at));
}

-- a posted datagram as it reaches a node: its sender is the node that posted it, and it is read again from its octets
abbrev pub arrives_at : Posted → Option Address → Option Arrival
arrives_at p None = None
arrives_at p (Some a) = Some (record { node = a.node; port = a.port; from = Peer (peer_of p.from); taken = taken_of (canon p.datagram) })

-- where a posted datagram goes, if it goes anywhere
abbrev pub goes_to : List (List ℕ) → Option Posted → Option Address
goes_to nets None = None
goes_to nets (Some p) = address_of nets p.from p.port p.to

-- what reaches a node of a posted datagram, if it goes to one
abbrev pub arrives : List (List ℕ) → Option Posted → Option Arrival
arrives nets None = None
arrives nets (Some p) = arrives_at p (address_of nets p.from p.port p.to)

-- what the coming of datagram k makes happen, if it reaches a node
abbrev pub reaches : HeaderValue → List Line → ℕ → ℕ → Option Arrival → Option Happening
reaches header history at k None = None
reaches header history at k (Some a) = Some (steps header history (answers_all (GotOn a.port a.from a.taken)) (record {
  at = at;
  node = a.node;
  cause = TakesPost k;
}))

-- what an event makes happen, if it makes a node act
abbrev pub happening : HeaderValue → List Line → Event → Option Happening
happening header history (BootAt at node word) = Some (steps header history boots_all (boot_step header at node word))
happening header history (Turn at node) = Some (steps header history (answers_all NodeTurn) (record { at = at; node = node; cause = Turned }))
happening header history (Take at k) = reaches header history at k (arrives (networks header) (slice_get (posts history) k))
happening header history (Bytes at node port from octets) =
    Some (steps header history (answers_all (GotOn port from (taken_of octets))) (record { at = at; node = node; cause = Handed }))

-- a history, and then a step
abbrev pub joins : Option Happening → List Line → List Line
joins None history = history
joins (Some h) history = stepped h.step h.tick h.acts history

-- the history of a schedule
abbrev pub run : HeaderValue → List Event → List Line
run header [] = []
run header (e ∷ before) = joins (happening header (run header before) e) (run header before)

-- the number of a post; other acts have none
abbrev pub number_of : Act → ℕ → Option ℕ
number_of (Post to datagram) k = Some k
number_of _ k = None

-- how many datagrams an act posts
abbrev pub posts_by : Act → ℕ
posts_by (Post to datagram) = 1
posts_by _ = 0

-- the trace's line of an act; k is its number if it is a post
abbrev pub told_line : ℕ → ℕ → ℕ → ℕ → Placed → ToldLine
told_line event node x k p = record { event = event; node = node; tick = x; number = number_of p.act k; placed = p }

-- the lines of some acts; the first post among them is number k
abbrev pub told_from : ℕ → ℕ → ℕ → ℕ → List Placed → List ToldLine
told_from event node x k [] = []
told_from event node x k (p ∷ rest) = told_line event node x k p ∷ told_from event node x (k + posts_by p.act) rest

-- the lines of what an event made happen, if it made a node act
abbrev pub told_of : ℕ → ℕ → Option Happening → List ToldLine
told_of event k None = []
told_of event k (Some h) = told_from event h.step.node h.tick k h.acts

-- the lines that the last event of a schedule adds to the trace
abbrev pub gained : HeaderValue → List Event → List ToldLine
gained header [] = []
gained header (e ∷ before) = told_of (length before + 1) (length (posts (run header before))) (happening header (run header before) e)

-- the lines of the trace of a schedule's run, the oldest first: each act, with the numbers of its event (from 1) and of
-- its post
abbrev pub told : HeaderValue → List Event → List ToldLine
told header [] = []
told header (e ∷ before) = told header before ++ gained header (e ∷ before)
