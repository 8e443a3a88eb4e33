-- The messages that a port posts once, and never repeats.
use Rattle.std.specs.Prelude.{Bool, true, false}
use Rattle.tsp_rules.specs.Values.{Kind, Accept, Ack, DateAck, MasterAck, MasterReq, MasterUp, Refuse, ResolveKind, SlaveUp}

-- whether messages of this kind carry nothing but a number, and aren't numbered sends
abbrev pub is_plain : Kind → Bool
is_plain Ack = true
is_plain MasterReq = true
is_plain MasterAck = true
is_plain MasterUp = true
is_plain SlaveUp = true
is_plain Accept = true
is_plain Refuse = true
is_plain ResolveKind = true
is_plain DateAck = true
is_plain _ = false
