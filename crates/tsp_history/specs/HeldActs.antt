-- Acts that are held without the names in their messages, and what they are with these.
use Rattle.std.specs.Prelude.{◌≡◌, ℕ, true, List, Option, None, Some}
use Rattle.tsp_base.specs.declared.act.Act.TheVariants as acts
use Rattle.tsp_base.specs.declared.{datagram.Datagram.TheVariants.Message, datagram.Datagram.TheVariants.Stamp, kind.Kind.Kind}
use Rattle.tsp_base.specs.declared.{datagram.Taken.TheVariants.Good, datagram.Taken.TheVariants.Bad, message.Body.Body}
use Rattle.tsp_base.specs.{Words.MessageValue, Words.body_fits, Words.IsName, declared.act.Act.Act, declared.datagram.Datagram.Datagram}
use Rattle.tsp_history.specs.declared.brief.Brief.{Brief}
use Rattle.tsp_history.specs.declared.brief.Brief.TheVariants as briefs

-- a message of this kind and number, with this body and name
abbrev pub held_message : Kind → ℕ → Body → List ℕ → MessageValue
held_message kind number body name = record { kind = kind; number = number; body = body; name = name }

-- the act, or none, that is held so, with the name in its message
abbrev pub act_of : Brief → List ℕ → Option Act
act_of briefs.Mark name = None
act_of briefs.Boot name = Some acts.Boot
act_of (briefs.TookMessage from kind number body) name = Some (acts.Took from (Good (Message (held_message kind number body name))))
act_of (briefs.TookStamp from stamp) name = Some (acts.Took from (Good (Stamp stamp)))
act_of (briefs.TookBad from fault) name = Some (acts.Took from (Bad fault))
act_of (briefs.PostMessage to kind number body) name = Some (acts.Post to (Message (held_message kind number body name)))
act_of (briefs.PostStamp to stamp) name = Some (acts.Post to (Stamp stamp))
act_of (briefs.Become role) name = Some (acts.Become role)
act_of (briefs.Back p) name = Some (acts.Back p)
act_of (briefs.Backer p) name = Some (acts.Backer p)
act_of (briefs.Quit p) name = Some (acts.Quit p)
act_of (briefs.Arm alarm tick) name = Some (acts.Arm alarm tick)
act_of (briefs.Ring alarm) name = Some (acts.Ring alarm)
act_of (briefs.Late alarm) name = Some (acts.Late alarm)
act_of (briefs.Join p) name = Some (acts.Join p)
act_of (briefs.Leave p) name = Some (acts.Leave p)
act_of (briefs.Rival p) name = Some (acts.Rival p)
act_of (briefs.Acked p) name = Some (acts.Acked p)
act_of (briefs.Gave p) name = Some (acts.Gave p)
act_of (briefs.Sample peer counter diff err ticket) name = Some (acts.Sample peer counter diff err ticket)
act_of (briefs.Close count lo width mean) name = Some (acts.Close count lo width mean)
act_of (briefs.Correct amount stepped shown) name = Some (acts.Correct amount stepped shown)
act_of briefs.Abandon name = Some acts.Abandon
act_of (briefs.Trace on) name = Some (acts.Trace on)

-- a message's body is the one that its kind carries, and its name is a name
abbrev pub IsBrief : Brief → List ℕ → Type 0
IsBrief (briefs.TookMessage from kind number body) name = (body_fits kind body ≡ true) × IsName name
IsBrief (briefs.PostMessage to kind number body) name = (body_fits kind body ≡ true) × IsName name
IsBrief _ name = Unit {0}

-- the act neither took nor posted
abbrev pub IsSilentAct : Act → Type 0
IsSilentAct (acts.Took from taken) = ⊥
IsSilentAct (acts.Post to datagram) = ⊥
IsSilentAct _ = Unit {0}

-- the datagram that is posted, if one is
abbrev pub posted_datagram : Option Act → Option Datagram
posted_datagram (Some (acts.Post to datagram)) = Some datagram
posted_datagram _ = None
