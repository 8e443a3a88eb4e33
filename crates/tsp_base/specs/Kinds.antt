-- The kinds of message: numbers and words.
use Rattle.std.specs.Prelude.{ℕ, ◌-◌, Bool, true, false, List, [], ◌∷◌, None, Some, codes, slice_index_or, if◌then◌else◌, nat_le, ◌&&◌}
use Rattle.std.specs.declared.option.Option.{Option}
use Rattle.tsp_base.specs.declared.kind.Kind.{Kind}
use Rattle.tsp_base.specs.declared.kind.Kind.TheVariants.{AdjTime, Ack, MasterReq, MasterAck, SetTime, MasterUp, SlaveUp, Election, Accept, Refuse, Conflict}
use Rattle.tsp_base.specs.declared.kind.Kind.TheVariants.{Resolve, Quit, Date, DateReq, DateAck, TraceOn, TraceOff, Msite, MsiteReq, Test, SetDate, SetDateReq}
use Rattle.tsp_base.specs.declared.kind.Kind.TheVariants.{Loop}

abbrev pub kinds : List Kind
kinds = AdjTime ∷ Ack ∷ MasterReq ∷ MasterAck ∷ SetTime ∷ MasterUp ∷ SlaveUp ∷ Election ∷ Accept ∷ Refuse ∷ Conflict ∷ Resolve ∷ Quit ∷ Date ∷ DateReq ∷
    DateAck ∷ TraceOn ∷ TraceOff ∷ Msite ∷ MsiteReq ∷ Test ∷ SetDate ∷ SetDateReq ∷ Loop ∷ []

-- the kind with this number
unfoldable pub kind_of : ℕ → Option Kind
kind_of n = if nat_le 1 n && nat_le n 24 then Some (slice_index_or kinds (n - 1) Loop) else None

unfoldable pub kind_number : Kind → ℕ
kind_number AdjTime = 1
kind_number Ack = 2
kind_number MasterReq = 3
kind_number MasterAck = 4
kind_number SetTime = 5
kind_number MasterUp = 6
kind_number SlaveUp = 7
kind_number Election = 8
kind_number Accept = 9
kind_number Refuse = 10
kind_number Conflict = 11
kind_number Resolve = 12
kind_number Quit = 13
kind_number Date = 14
kind_number DateReq = 15
kind_number DateAck = 16
kind_number TraceOn = 17
kind_number TraceOff = 18
kind_number Msite = 19
kind_number MsiteReq = 20
kind_number Test = 21
kind_number SetDate = 22
kind_number SetDateReq = 23
kind_number Loop = 24

unfoldable pub carries_time : Kind → Bool
carries_time AdjTime = true
carries_time SetTime = true
carries_time Date = true
carries_time DateReq = true
carries_time SetDate = true
carries_time SetDateReq = true
carries_time _ = false

unfoldable pub kind_word : Kind → List ℕ
kind_word AdjTime = codes "adjtime"
kind_word Ack = codes "ack"
kind_word MasterReq = codes "masterreq"
kind_word MasterAck = codes "masterack"
kind_word SetTime = codes "settime"
kind_word MasterUp = codes "masterup"
kind_word SlaveUp = codes "slaveup"
kind_word Election = codes "election"
kind_word Accept = codes "accept"
kind_word Refuse = codes "refuse"
kind_word Conflict = codes "conflict"
kind_word Resolve = codes "resolve"
kind_word Quit = codes "quit"
kind_word Date = codes "date"
kind_word DateReq = codes "datereq"
kind_word DateAck = codes "dateack"
kind_word TraceOn = codes "traceon"
kind_word TraceOff = codes "traceoff"
kind_word Msite = codes "msite"
kind_word MsiteReq = codes "msitereq"
kind_word Test = codes "test"
kind_word SetDate = codes "setdate"
kind_word SetDateReq = codes "setdatereq"
kind_word Loop = codes "loop"

unfoldable pub carries_hops : Kind → Bool
carries_hops Loop = true
carries_hops _ = false
