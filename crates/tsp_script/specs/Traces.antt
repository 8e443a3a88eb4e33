-- The texts of a trace.
use Rattle.std.specs.Prelude.{ℕ, List, ◌++◌, Bool, true, false, decimal, codes}
use Rattle.std.specs.Fmt.{signed_decimal}
use Rattle.tsp_script.specs.Texts.{space, message_text}
use Rattle.tsp_base.specs.{Words.alarm_word, declared.act.Act.Act, declared.act.Placed.Placed, declared.datagram.DecodeFault.DecodeFault}
use Rattle.tsp_base.specs.declared.act.Act.TheVariants.{Boot, Took, Post, Become, Back, Backer, Quit, Arm, Ring, Late, Join, Leave, Rival, Acked, Gave, Sample}
use Rattle.tsp_base.specs.declared.act.Act.TheVariants.{Close, Correct, Abandon, Trace}
use Rattle.tsp_base.specs.declared.datagram.DecodeFault.TheVariants.{Short, Long, Version, Kind, StampLength, NoEnd, NameTooLong, Reserved, Time}
use Rattle.tsp_base.specs.declared.{datagram.Taken.Taken, datagram.Taken.TheVariants.Good, datagram.Taken.TheVariants.Bad, role.Role.Role}
use Rattle.tsp_base.specs.declared.place.Place.{Place, TheVariants.Peer, TheVariants.Stranger}
use Rattle.tsp_base.specs.declared.role.Role.TheVariants.{Starting, Loose, Follow, Candidate, Master}

-- the word of a fault
abbrev pub fault_word : DecodeFault → List ℕ
fault_word Short = codes "short"
fault_word Long = codes "long"
fault_word Version = codes "version"
fault_word Kind = codes "kind"
fault_word StampLength = codes "stamp-length"
fault_word NoEnd = codes "no-end"
fault_word NameTooLong = codes "name-too-long"
fault_word Reserved = codes "reserved"
fault_word Time = codes "time"

-- a role
abbrev pub role_text : Role → List ℕ
role_text Starting = codes "starting"
role_text Loose = codes "loose"
role_text (Follow p) = codes "follow " ++ decimal p.0
role_text Candidate = codes "candidate"
role_text Master = codes "master"

-- a peer's number, or a dash for a stranger
abbrev pub place_text : Place → List ℕ
place_text (Peer p) = decimal p.0
place_text Stranger = codes "-"

-- what was taken: a datagram, or the fault of octets that aren't one
abbrev pub taken_text : Taken → List ℕ
taken_text (Good d) = message_text d
taken_text (Bad f) = codes "refused " ++ fault_word f

-- how the clock was corrected
abbrev pub way_word : Bool → List ℕ
way_word true = codes " step "
way_word false = codes " slew "

-- an act that has microseconds
abbrev pub has_micros : Act → Bool
has_micros (Sample p counter diff err ticket) = true
has_micros (Close count lo width mean) = true
has_micros (Correct amount stepped shown) = true
has_micros _ = false

-- an act; the number is the posted datagram's
abbrev pub act_text : ℕ → Act → List ℕ
act_text number Boot = codes "boot"
act_text number (Took from taken) = codes "took " ++ place_text from ++ space ++ taken_text taken
act_text number (Post to d) = codes "post " ++ decimal number ++ space ++ place_text to ++ space ++ message_text d
act_text number (Become role) = codes "become " ++ role_text role
act_text number (Back p) = codes "back " ++ decimal p.0
act_text number (Backer p) = codes "backer " ++ decimal p.0
act_text number (Quit p) = codes "quit " ++ decimal p.0
act_text number (Arm alarm at) = codes "arm " ++ alarm_word alarm ++ space ++ decimal at
act_text number (Ring alarm) = codes "ring " ++ alarm_word alarm
act_text number (Late alarm) = codes "late " ++ alarm_word alarm
act_text number (Join p) = codes "join " ++ decimal p.0
act_text number (Leave p) = codes "leave " ++ decimal p.0
act_text number (Rival p) = codes "rival " ++ decimal p.0
act_text number (Acked p) = codes "acked " ++ decimal p.0
act_text number (Gave p) = codes "gave " ++ decimal p.0
act_text number (Sample p counter diff err ticket) = codes "sample " ++ decimal p.0 ++ space ++ decimal counter ++ space ++ signed_decimal diff ++ space ++
    signed_decimal err ++ space ++ decimal ticket
act_text number (Close count lo width mean) = codes "close " ++ decimal count ++ space ++ signed_decimal lo ++ space ++ signed_decimal width ++ space ++
    signed_decimal mean
act_text number (Correct amount stepped shown) = codes "correct " ++ signed_decimal amount ++ way_word stepped ++ signed_decimal shown
act_text number Abandon = codes "abandon"
act_text number (Trace true) = codes "trace on"
act_text number (Trace false) = codes "trace off"

-- a line of the trace: the event's number, node, port and tick, and then the act
abbrev pub trace_text : ℕ → ℕ → ℕ → ℕ → Placed → List ℕ
trace_text event node tick number placed = decimal event ++ space ++ decimal node ++ space ++ decimal placed.port.0 ++ space ++ decimal tick ++ space ++
    act_text number placed.act
