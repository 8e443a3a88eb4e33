-- The types and variants that all crates speak of, from one place, under one name each.
pub use Rattle.tsp_base.specs.declared.act.Act.{Act}
pub use Rattle.tsp_base.specs.declared.act.Act.TheVariants.{Boot, Took, Post, Become, Arm, Ring, Late, Back, Backer, Abandon, Close, Correct, Sample, Acked}
pub use Rattle.tsp_base.specs.declared.act.Act.TheVariants.{Gave, Join, Leave, Rival, Quit, Trace}
pub use Rattle.tsp_base.specs.declared.act.Placed.{Placed}
pub use Rattle.tsp_base.specs.declared.alarm.Alarm.{Alarm}
pub use Rattle.tsp_base.specs.declared.alarm.Alarm.TheVariants.{Quiet, Window, Elect, Search, Round, Probe, Close as CloseAlarm, Resolve as ResolveAlarm}
pub use Rattle.tsp_base.specs.declared.datagram.Datagram.{Datagram}
pub use Rattle.tsp_base.specs.declared.datagram.Datagram.TheVariants.{Message, Stamp}
pub use Rattle.tsp_base.specs.declared.datagram.Taken.{Taken}
pub use Rattle.tsp_base.specs.declared.datagram.Taken.TheVariants.{Good, Bad}
pub use Rattle.tsp_base.specs.declared.event.Event.{Event}
pub use Rattle.tsp_base.specs.declared.event.Event.TheVariants.{Boot as BootAt, Turn, Take, Bytes}
pub use Rattle.tsp_base.specs.declared.header.NodeLine.{NodeLine}
pub use Rattle.tsp_base.specs.declared.kind.Kind.{Kind}
pub use Rattle.tsp_base.specs.declared.kind.Kind.TheVariants.{Accept, Ack, AdjTime, Conflict, Date, DateAck, DateReq, Election, Loop as LoopKind, MasterAck}
pub use Rattle.tsp_base.specs.declared.kind.Kind.TheVariants.{MasterReq, MasterUp, Msite, MsiteReq, Quit as QuitKind, Refuse, Resolve as ResolveKind, SetDate}
pub use Rattle.tsp_base.specs.declared.kind.Kind.TheVariants.{SetDateReq, SetTime, SlaveUp, Test, TraceOff, TraceOn}
pub use Rattle.tsp_base.specs.declared.message.Body.{Body}
pub use Rattle.tsp_base.specs.declared.message.Body.TheVariants.{Nothing, Time as TimeBody, Hops}
pub use Rattle.tsp_base.specs.declared.place.PeerId.{PeerId}
pub use Rattle.tsp_base.specs.declared.place.Place.{Place}
pub use Rattle.tsp_base.specs.declared.place.Place.TheVariants.{Peer, Stranger}
pub use Rattle.tsp_base.specs.declared.place.Port.{Port}
pub use Rattle.tsp_base.specs.declared.role.Role.{Role}
pub use Rattle.tsp_base.specs.declared.role.Role.TheVariants.{Starting, Loose, Follow, Candidate, Master}
pub use Rattle.tsp_base.specs.declared.stamp.Stamp.{Stamp as StampValue}
pub use Rattle.tsp_base.specs.declared.stamp.Stamp.TheVariants.{Request, Reply}
pub use Rattle.tsp_base.specs.declared.trace.Line2.{Line2}
pub use Rattle.tsp_base.specs.declared.constants.TheConstants.{QUIET, HOLD, WINDOW, SLACK, ELECT_MIN, ELECT_SPREAD, ROUND, WAIT, PROBE, CLOSE, RETRY, TRIES}
pub use Rattle.tsp_base.specs.declared.constants.TheConstants.{LAST, REUSE, GAP, SPAN, MAXADJ, SLEW, DATEHOLD, HOPS, LIFE, FAR, LIMIT, SCHEDULE_END}
pub use Rattle.tsp_base.specs.declared.alarm.TheConstants.Alarm.{ALL}
