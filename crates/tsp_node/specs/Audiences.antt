-- Who handles a message of a kind, and whom a port heeds.
use Rattle.std.specs.Prelude.{◌&&◌, not, Bool, if◌then◌else◌, Option, None, Some}
use Rattle.tsp_rules.specs.Values.{Kind, Ack, Date, DateAck, DateReq, LoopKind, Msite, MsiteReq, SetDate, SetDateReq, Test, TraceOff, TraceOn, PeerId, Place}
use Rattle.tsp_rules.specs.Values.{Peer, Stranger}
use Rattle.tsp_base.specs.Words.{is_among}
use Rattle.tsp_rules.specs.Guards.{is_starting_role}
use Rattle.tsp_acks.specs.declared.station.Station.{Station}
use Rattle.tsp_node.specs.declared.audience.Audience.{Audience}
use Rattle.tsp_node.specs.declared.audience.Audience.TheVariants.{OfClients, OfDates, OfNode, OfRoles, OfSends}

-- clients ask some, others set dates, a LOOP is for the node, an ACK ends an open send, and all else is for the roles
abbrev pub audience_of : Kind → Audience
audience_of Msite = OfClients
audience_of MsiteReq = OfClients
audience_of TraceOn = OfClients
audience_of TraceOff = OfClients
audience_of Test = OfClients
audience_of Date = OfDates
audience_of SetDate = OfDates
audience_of DateReq = OfDates
audience_of SetDateReq = OfDates
audience_of DateAck = OfDates
audience_of LoopKind = OfNode
audience_of Ack = OfSends
audience_of _ = OfRoles

-- whether a port heeds p: it is one of its peers, and the quiet time is over
abbrev pub hears_by : Station → PeerId → Bool
hears_by station p = is_among p station.peers && not (is_starting_role station.role)

-- the sender, where the port heeds it
abbrev pub heard_from : Station → Place → Option PeerId
heard_from station (Peer p) = if hears_by station p then Some p else None
heard_from station Stranger = None
