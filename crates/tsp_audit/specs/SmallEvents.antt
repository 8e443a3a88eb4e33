-- Events that are held, each in little room.
use Rattle.tsp_audit.specs.declared.small_event.{Held.Held, Held.TheVariants.Boxed, Held.TheVariants.Plain, Outside.Outside}
use Rattle.tsp_rules.specs.Values.{Event, Bytes}
use Rattle.tsp_base.specs.Words.{event_in}

-- the event of octets that no node posted
abbrev pub outside_event : Outside → Event
outside_event e = Bytes e.at e.node e.port e.from e.octets

-- the event that is held so
abbrev pub event_of : Held → Event
event_of (Plain e) = event_in e
event_of (Boxed e) = outside_event e.value
