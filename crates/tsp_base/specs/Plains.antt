-- Events without octets.
use Rattle.tsp_base.specs.declared.event.Event.{Event, TheVariants.Boot, TheVariants.Turn, TheVariants.Take}
use Rattle.tsp_base.specs.declared.plain.Plain.{Plain}
use Rattle.tsp_base.specs.declared.plain.Plain.TheVariants.{Boot as PlainBoot, Turn as PlainTurn, Take as PlainTake}

-- the event
abbrev pub event_in : Plain → Event
event_in (PlainBoot at node word) = Boot at node word
event_in (PlainTurn at node) = Turn at node
event_in (PlainTake at datagram) = Take at datagram
