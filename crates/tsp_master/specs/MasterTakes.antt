-- What a master itself does with messages of its peers; the others are for its port's other parts.
use Rattle.tsp_rules.specs.Values.{Kind, Election, MasterAck, MasterReq, ResolveKind, SlaveUp, PeerId, StampValue, Request, Reply}
use Rattle.tsp_base.specs.Words.{MessageValue, Row, nothing, posts}
use Rattle.tsp_rules.specs.{MasterRows.joins, MasterRows.sends_away, RoundRows.samples}

-- what it does with this kind of message
unfoldable pub master_takes_kind_here : PeerId → MessageValue → Kind → Row
master_takes_kind_here p m MasterReq = posts p MasterAck m.number
master_takes_kind_here p m ResolveKind = posts p MasterAck m.number
master_takes_kind_here p m SlaveUp = joins p m.number
master_takes_kind_here p m Election = sends_away p
master_takes_kind_here p m _ = nothing

-- what it does with a message
unfoldable pub master_takes_here : PeerId → MessageValue → Row
master_takes_here p m = master_takes_kind_here p m m.kind

-- what it does with a stamp: a reply may give a sample
abbrev pub samples_of : PeerId → StampValue → Row
samples_of p (Request word counter) = nothing
samples_of p (Reply r) = samples p r
