-- The generator of schedules: what it draws from a number.
use Rattle.std.specs.Prelude.{ℕ, ◌+◌, ◌-◌, ◌*◌, ◌/◌, ◌%◌, ◌^◌, ◌≤◌, ◌<◌, nat_lt, nat_le, ◌==◌, min, true, if◌then◌else◌, pos, ◌-ℤ◌, List, ◌∷◌, decimal, Option}
use Rattle.std.specs.Prelude.{None, Some}
use Rattle.tsp_base.specs.declared.event.Event.TheVariants.{Boot as BootAt, Turn, Take, Bytes}
use Rattle.tsp_base.specs.declared.{header.NodeLine.NodeLine, place.Place.TheVariants.Stranger, stamp.Stamp.TheVariants.Request}
use Rattle.tsp_base.specs.{Words.first_port, Words.event_in, declared.datagram.Datagram.TheVariants.Stamp, declared.event.Event.Event}
use Rattle.tsp_codec.specs.Canon.{canon}
use Rattle.tsp_script.specs.{Schedules.IsEvent, Schedules.IsTrueTime, declared.storm.Choice.Choice, declared.storm.Draw.Draw}
use Rattle.tsp_script.specs.declared.storm.Choice.TheVariants.{Plain, Request as Asked, Ask as Asks}
use Rattle.tsp_script.specs.declared.storm.Draw.TheVariants.{Event as Gives, Ask}

-- a generator: its state, how many nodes the schedule has, how many of their lines and how many events it gave, the time of its last event, and the datagram
-- that it asks for
pub record StormValue : Type 0 where
  pub state : ℕ
  pub nodes : ℕ
  pub named : ℕ
  pub given : ℕ
  pub at : ℕ
  pub asked : Option ℕ

-- a generator of these parts
abbrev pub storm_of : ℕ → ℕ → ℕ → ℕ → ℕ → Option ℕ → StormValue
storm_of state nodes named given at asked = record { state = state; nodes = nodes; named = named; given = given; at = at; asked = asked }

-- a generator that has given nothing
abbrev pub storm_begins : ℕ → ℕ → StormValue
storm_begins seed nodes = record { state = seed; nodes = nodes; named = 0; given = 0; at = 0; asked = None }

-- the state moves on with each draw
abbrev pub moved : StormValue → StormValue
moved v = record v { state = (v.state * 6364136223846793005 + 1442695040888963407) % 2 ^ 64 }

-- the number below m that the last move has drawn: its 31 high bits, modulo m
abbrev pub drawn : ℕ → StormValue → ℕ
drawn m v = v.state / 2 ^ 33 % m

-- the line of the next node: `n` and its number, a rate from -100 to 100, a wall clock at most a second from 0, and it may be master
abbrev pub storm_line : StormValue → NodeLine
storm_line v = record {
  name = 110 ∷ decimal v.named;
  rate = pos (drawn 201 (moved v)) -ℤ pos 100;
  wall = pos (drawn 2000001 (moved (moved v))) -ℤ pos 1000000;
  may = true;
}

-- the generator after a node's line
abbrev pub storm_named : StormValue → StormValue
storm_named v = record (moved (moved v)) { named = v.named + 1 }

-- the generator has given one event more, at this time, and asks for nothing
abbrev pub gave : ℕ → StormValue → StormValue
gave at v = record v { given = v.given + 1; at = at; asked = None }

-- a boot of the next node at time 0, with the state as its word
abbrev pub boots_next : StormValue → Event × StormValue
boots_next v = (BootAt 0 v.given (moved v).state, gave 0 (moved v))

-- a turn of a node that is drawn
abbrev pub turns_one : ℕ → StormValue → Event × StormValue
turns_one at v = (Turn at (drawn v.nodes (moved v)), gave at (moved v))

-- a stranger's request for a clock, with this word
abbrev pub request_octets : ℕ → List ℕ
request_octets word = canon (Stamp (Request word 0))

-- a stranger's request with this word at a node
abbrev pub request_event : ℕ → ℕ → ℕ → Event
request_event at node word = Bytes at node first_port Stranger (request_octets word)

-- a node that is drawn takes a stranger's request, whose word is the state
abbrev pub asks_one : ℕ → StormValue → Event × StormValue
asks_one at v = (request_event at (drawn v.nodes (moved v)) (moved v).state, gave at (moved v))

-- one of the last datagrams, at most four for each node, of so many
abbrev pub recent_one : ℕ → StormValue → ℕ
recent_one posted v = (posted - 1) - drawn (min posted (4 * v.nodes)) v

-- an event is given
abbrev pub as_event : Event × StormValue → Draw × StormValue
as_event e = (Gives e.0, e.1)

-- a question is asked, at this time
abbrev pub as_question : ℕ → ℕ → StormValue → Draw × StormValue
as_question k at v = (Ask k, record v { at = at; asked = Some k })

-- a question for one of the last datagrams; a turn where none was posted
abbrev pub asks_or_turns : ℕ → ℕ → StormValue → Draw × StormValue
asks_or_turns at posted v = if posted == 0 then as_event (turns_one at v) else as_question (recent_one posted (moved v)) at (moved v)

-- what becomes of one of eight numbers: a turn of four, a datagram's take of three, a stranger's request of the last
abbrev pub chosen : ℕ → ℕ → ℕ → StormValue → Draw × StormValue
chosen c at posted v = if nat_lt c 4 then as_event (turns_one at v) else if nat_lt c 7 then asks_or_turns at posted v else as_event (asks_one at v)

-- what the generator gives, if no question is open: each node boots first; then time moves on by at most 20,000 microseconds
abbrev pub storm_draw : ℕ → StormValue → Draw × StormValue
storm_draw posted v =
    if nat_lt v.given v.nodes then as_event (boots_next v)
    else chosen (drawn 8 (moved (moved v))) (v.at + drawn 20001 (moved v)) posted (moved (moved v))

-- what it gives where the datagram that it asked for was posted at this time: its take, if that is at most 20,000,000 microseconds ago, else a turn
abbrev pub storm_take : ℕ → ℕ → StormValue → Event × StormValue
storm_take k time v = if nat_le v.at (time + 20000000) then (Take v.at k, gave v.at v) else turns_one v.at v

-- what it gives next: the answer to its question, if it has asked for a datagram, which was posted at this time
abbrev pub storm_answer : ℕ → Option ℕ → ℕ → StormValue → Draw × StormValue
storm_answer posted None time v = storm_draw posted v
storm_answer posted (Some k) time v = as_event (storm_take k time v)

-- what it gives next where so many datagrams were posted
abbrev pub storm_next : ℕ → Option ℕ → StormValue → Draw × StormValue
storm_next posted None v = storm_draw posted v
storm_next posted (Some time) v = storm_answer posted v.asked time v

-- an event in its ranges, or a question for a datagram that was posted
abbrev pub IsDraw : ℕ → Draw → Type 0
IsDraw posted (Gives e) = IsEvent e
IsDraw posted (Ask k) = k < posted

-- what a choice gives, with the octets of a request
abbrev pub draw_of : Choice → Draw
draw_of (Plain plain) = Gives (event_in plain)
draw_of (Asked at node word) = Gives (request_event at node word)
draw_of (Asks k) = Ask k

-- the same of a choice: its numbers are in their ranges
abbrev pub IsChoice : ℕ → Choice → Type 0
IsChoice posted (Plain plain) = IsEvent (event_in plain)
IsChoice posted (Asked at node word) = IsTrueTime at × (node < 2 ^ 32)
IsChoice posted (Asks k) = k < posted

-- the latest time that may be reached: each event moves it by at most 20,000 microseconds, and a question counts as the event to come
abbrev pub latest : ℕ → Option ℕ → ℕ
latest given None = 20000 * given
latest given (Some k) = 20000 * (given + 1)

-- what is true of each generator
pub record IsStorm (v : StormValue) : Type 0 where
  pub state : v.state < 2 ^ 64
  pub some : 1 ≤ v.nodes
  pub few : v.nodes ≤ 64
  pub named : v.named ≤ v.nodes
  pub given : v.given ≤ 200000
  pub time : v.at ≤ latest v.given v.asked
