-- What a master does with the messages of its peers.
use Rattle.std.specs.Prelude.{ℕ, nat_lt, Bool, not, ◌&&◌}
use Rattle.tsp_rules.specs.Values.{Join, Kind, Ack, Conflict, Election, MasterAck, MasterReq, MasterUp, QuitKind, ResolveKind, SlaveUp, PeerId}
use Rattle.tsp_base.specs.Words.{Past, MessageValue, Row, nothing, puts, ◌followed_by◌, either_by, posts}
use Rattle.tsp_rules.specs.{CommonRows.quits, Guards.is_slave_at, ResolveRows.resolves, ResolveRows.finds_rival}
use Rattle.tsp_rules.specs.SendRows.{begins, begins_settime, has_quit, acknowledges}

-- whether a number is a ticket, and its sender isn't a slave yet
abbrev pub may_join : PeerId → ℕ → ℕ → Past → Bool
may_join p number x past = nat_lt number 32768 && not (is_slave_at p x past)

-- p joins the slaves and is sent the time, under the number that it reported
unfoldable pub joins : PeerId → ℕ → Row
joins p number = either_by (may_join p number) (puts (Join p) followed_by begins_settime p number) nothing

-- a candidate is sent a QUIT, unless one to it is open already
unfoldable pub sends_away : PeerId → Row
sends_away p = either_by (has_quit p) nothing (begins QuitKind p)

-- what a master does with this kind of message of a peer
unfoldable pub master_takes_kind : PeerId → MessageValue → Kind → Row
master_takes_kind p m MasterReq = posts p MasterAck m.number
master_takes_kind p m ResolveKind = posts p MasterAck m.number
master_takes_kind p m SlaveUp = joins p m.number
master_takes_kind p m Election = sends_away p
master_takes_kind p m MasterUp = resolves
master_takes_kind p m Conflict = posts p Ack m.number followed_by resolves
master_takes_kind p m MasterAck = finds_rival p
master_takes_kind p m QuitKind = quits p m.number
master_takes_kind p m Ack = acknowledges p m.number
master_takes_kind p m _ = nothing

-- what it does with a message of a peer
unfoldable pub master_takes : PeerId → MessageValue → Row
master_takes p m = master_takes_kind p m m.kind
