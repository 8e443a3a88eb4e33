-- What a link in memory holds, as values.
use Rattle.std.specs.Prelude.{Some, None}
use Rattle.tsp_io.specs.{Links.Arrival, Links.Binding, Links.Tried, declared.arrivals.Coming.Coming}
use Rattle.tsp_io.specs.declared.arrivals.Coming.TheVariants.{Datagram, Nothing}
use Rattle.tsp_io.specs.declared.{noted_calls.NotedBind.NotedBind, tried_sends.TriedSend.TriedSend}

-- an arrival as a value
abbrev pub arrival_of : Coming → Arrival
arrival_of (Datagram from octets) = Some (from, octets.items)
arrival_of Nothing = None

-- a send that was tried as a value
abbrev pub tried_of : TriedSend → Tried
tried_of t = (t.to, t.octets.items)

-- a bind as a value
abbrev pub binding_of : NotedBind → Binding
binding_of b = record { local = b.local; peers = b.peers.items }
