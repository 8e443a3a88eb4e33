-- The texts of values: names, messages and trace lines.
use Rattle.std.specs.Prelude.{◌≡◌, ℕ, List, [], ◌∷◌, ◌++◌, Bool, not, ◌&&◌, ◌==◌, nat_lt, if◌then◌else◌, flat_map, decimal, codes}
use Rattle.std.specs.{Fmt.signed_decimal, declared.result.Result.Result}
use Rattle.std.specs.declared.result.Result.TheVariants.{Ok, Err}
use Rattle.hex.specs.Hex.{encode_lower}
use Rattle.tsp_base.specs.{Words.kind_word, Words.MessageValue, Words.ReplyValue, declared.datagram.Datagram.Datagram}
use Rattle.tsp_base.specs.declared.message.Body.TheVariants.{Nothing, Time as TimeBody, Hops}
use Rattle.tsp_base.specs.declared.stamp.Stamp.{Stamp as StampValue, TheVariants.Request, TheVariants.Reply}
use Rattle.tsp_base.specs.declared.{datagram.Datagram.TheVariants.Message, datagram.Datagram.TheVariants.Stamp, message.Body.Body}
use Rattle.tsp_script.specs.{Ranges.IsDatagram, declared.line_fault.LineFault.LineFault, declared.line_fault.LineFault.TheVariants.Bad}

-- one space
abbrev pub space : List ℕ
space = 32 ∷ []

-- an octet that is written as itself in a name: printable, no space and no per cent sign
abbrev pub is_plain : ℕ → Bool
is_plain c = (nat_lt 32 c && nat_lt c 127) && not (c == 37)

-- the text of one octet of a name
abbrev pub escaped : ℕ → List ℕ
escaped c = if is_plain c then c ∷ [] else 37 ∷ encode_lower (c ∷ [])

-- the text of a name, which is a lone per cent sign for the empty name
abbrev pub name_text : List ℕ → List ℕ
name_text [] = 37 ∷ []
name_text (c ∷ cs) = flat_map escaped (c ∷ cs)

-- what a message's text has between the number and the name
abbrev pub body_text : Body → List ℕ
body_text Nothing = []
body_text (TimeBody t) = signed_decimal t ++ space
body_text (Hops h) = decimal h ++ space

-- the line of a message
abbrev pub message_line : MessageValue → List ℕ
message_line m = kind_word m.kind ++ space ++ decimal m.number ++ space ++ body_text m.body ++ name_text m.name

-- the line of a reply
abbrev pub reply_text : ReplyValue → List ℕ
reply_text r = codes "reply " ++ decimal r.ticket ++ space ++ decimal r.word ++ space ++ decimal r.counter ++ space ++ signed_decimal r.reading

-- the line of a stamp
abbrev pub stamp_text : StampValue → List ℕ
stamp_text (Request word counter) = codes "request " ++ decimal word ++ space ++ decimal counter
stamp_text (Reply r) = reply_text r

-- the line of a datagram
abbrev pub message_text : Datagram → List ℕ
message_text (Message m) = message_line m
message_text (Stamp s) = stamp_text s

-- what reading a line gives: the datagram that is written so, or `Bad` where none is
abbrev pub ReadsMessage : List ℕ → Result Datagram LineFault → Type 0
ReadsMessage line (Ok d) = IsDatagram d × (line ≡ message_text d)
ReadsMessage line (Err Bad) = (d : Datagram) → IsDatagram d → line ≡ message_text d → ⊥

-- a time
abbrev pub IsTimeBody : Body → Type 0
IsTimeBody (TimeBody t) = Unit {0}
IsTimeBody _ = ⊥

-- a hop count
abbrev pub IsHopsBody : Body → Type 0
IsHopsBody (Hops h) = Unit {0}
IsHopsBody _ = ⊥
