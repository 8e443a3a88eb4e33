-- The ranges of the parts of a datagram, which each datagram of the program is in.
use Rattle.std.specs.Prelude.{◌≡◌, ◌^◌, ◌<◌, true}
use Rattle.hex.specs.Hex.{IsBytes}
use Rattle.tsp_base.specs.Words.{MessageValue, body_fits, IsName, IsReply, IsMicros}
use Rattle.tsp_base.specs.declared.message.Body.{Body, TheVariants.Nothing, TheVariants.Time as TimeBody, TheVariants.Hops}
use Rattle.tsp_base.specs.declared.stamp.Stamp.{Stamp as StampValue, TheVariants.Request, TheVariants.Reply}
use Rattle.tsp_base.specs.declared.datagram.Datagram.{Datagram, TheVariants.Message, TheVariants.Stamp}

-- a time or a hop count in its range
abbrev pub IsBody : Body → Type 0
IsBody Nothing = Unit {0}
IsBody (TimeBody t) = IsMicros t
IsBody (Hops h) = h < 2 ^ 8

-- a message whose parts are in their ranges, with the body that its kind carries
pub record IsMessage (m : MessageValue) : Type 0 where
  pub number : m.number < 2 ^ 16
  pub fits : body_fits m.kind m.body ≡ true
  pub body : IsBody m.body
  pub name : IsName m.name
  pub octets : IsBytes m.name

-- a stamp whose parts are in their ranges
abbrev pub IsStamp : StampValue → Type 0
IsStamp (Request word counter) = (word < 2 ^ 64) × (counter < 2 ^ 64)
IsStamp (Reply r) = (r.word < 2 ^ 64) × (r.counter < 2 ^ 64) × IsReply r.ticket r.reading

-- a datagram whose parts are in their ranges
abbrev pub IsDatagram : Datagram → Type 0
IsDatagram (Message m) = IsMessage m
IsDatagram (Stamp s) = IsStamp s
