-- Why the events of a schedule are refused.
use Rattle.std.specs.Prelude.{List, Option}
use Rattle.tsp_base.specs.{Words.HeaderValue, declared.event.Event.Event, declared.event.EventFault.EventFault}

-- the cause, if there is one, for which an event is refused after these events, the newest first, under a header
abbrev pub Refusing : Type 0
Refusing = HeaderValue → List Event → Event → Option EventFault
