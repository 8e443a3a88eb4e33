-- The schedule that comes of a number: a header, and events, of which some take a datagram that the run of those before them posted.
use Rattle.std.specs.Prelude.{ℕ, zero, suc, false, List, [], ◌∷◌, ◌++◌, length, None, slice_get, unwrap_or}
use Rattle.tsp_rules.specs.Values.{Event, NodeLine}
use Rattle.tsp_base.specs.Words.{HeaderValue}
use Rattle.tsp_script.specs.declared.storm.Draw.{Draw, TheVariants.Event as Gives, TheVariants.Ask}
use Rattle.tsp_script.specs.Storms.{StormValue, storm_begins, storm_line, storm_named, storm_next, storm_take}
use Rattle.tsp_args.specs.declared.storm.StormWords.{StormWords}
use Rattle.tsp_run.specs.Run.{run, posts, posted_time}

-- a generator after the lines of so many nodes
abbrev pub after_lines : ℕ → StormValue → StormValue
after_lines zero v = v
after_lines (suc n) v = storm_named (after_lines n v)

-- the lines of so many nodes, in order
abbrev pub storm_lines : ℕ → StormValue → List NodeLine
storm_lines zero v = []
storm_lines (suc n) v = storm_lines n v ++ storm_line (after_lines n v) ∷ []

-- the generator that has given nothing
abbrev pub generator_of : StormWords → StormValue
generator_of s = storm_begins s.seed s.nodes

-- the header: a drift of 100 parts in a million, and a line for each node; a candidate needs no majority, and all nodes are on one network
abbrev pub header_of : StormWords → HeaderValue
header_of s = record { drift = 100; strict = false; nodes = storm_lines s.nodes (generator_of s); nets = [] }

-- how many datagrams a schedule's run has posted
abbrev pub posted_count : HeaderValue → List Event → ℕ
posted_count header events = length (posts (run header events))

-- the true time of the datagram with this number in a schedule's run; 0 where there is none
abbrev pub posting_time : HeaderValue → List Event → ℕ → ℕ
posting_time header events k = unwrap_or (posted_time (slice_get (posts (run header events)) k)) 0

-- the event that comes of a draw, and the generator after it: a question is answered by the run so far
unfoldable pub drawn_event : HeaderValue → List Event → Draw → StormValue → Event × StormValue
drawn_event header before (Gives e) v = (e, v)
drawn_event header before (Ask k) v = storm_take k (posting_time header before k) v

-- what this generator gives after these events
unfoldable pub next_event : HeaderValue → List Event → StormValue → Event × StormValue
next_event header before v = let d = storm_next (posted_count header before) None v in drawn_event header before d.0 d.1

-- events, the newest first, and the generator that has given them
pub record Made : Type 0 where
  pub events : List Event
  pub generator : StormValue

-- one event more
abbrev pub one_more_made : HeaderValue → Made → Made
one_more_made header m = let e = next_event header m.events m.generator in record { events = e.0 ∷ m.events; generator = e.1 }

-- so many events of the schedule
abbrev pub made : StormWords → ℕ → Made
made s zero = record { events = []; generator = after_lines s.nodes (generator_of s) }
made s (suc n) = one_more_made (header_of s) (made s n)

abbrev pub storm_events : StormWords → ℕ → List Event
storm_events s n = (made s n).events

-- the event that comes after so many
abbrev pub event_after : StormWords → ℕ → Event
event_after s n = (next_event (header_of s) (made s n).events (made s n).generator).0
