-- What each deed owes to its port's past, and to what the port is set up with.
use Rattle.std.specs.Prelude.{◌≡◌, ℕ, ◌≤◌, ◌⊎◌, ◌+◌, ◌%◌, Bool, true, false, if◌then◌else◌, List, None}
use Rattle.tsp_rules.specs.Values.{Act, Took, Post, Become, Arm, Back, Backer, Close, Correct, Sample, Acked, Quit, CloseAlarm, Datagram, Message, Stamp, Kind}
use Rattle.tsp_rules.specs.Values.{Accept, Ack, AdjTime, Conflict, Date, DateAck, DateReq, Election, LoopKind, MasterAck, MasterReq, MasterUp, Msite, MsiteReq}
use Rattle.tsp_rules.specs.Values.{QuitKind, Refuse, ResolveKind, SetDate, SetDateReq, SetTime, SlaveUp, Test, TraceOff, TraceOn, PeerId, Place, Peer, Stranger}
use Rattle.tsp_rules.specs.Values.{Request, Reply, QUIET}
use Rattle.tsp_base.specs.Words.{Deed, Begins, Acts, Did, Seen, plain, MessageValue, boot_tick, ticket, word, acting, kept_name, role, taken, begun, Setup}
use Rattle.tsp_base.specs.Words.{TakesFrom, heard}
use Rattle.tsp_promises.specs.{AckFits.AckFits, AckFits.AckedFits, CorrectFits.CorrectFits, DateFits.DateAckFits, DateFits.PassOnFits}
use Rattle.tsp_promises.specs.{CorrectionFits.CorrectionFits, CorrectionFits.RepeatFits, LoopFits.LoopFits, QuitFits.QuitFits}
use Rattle.tsp_promises.specs.HoldFits.{AcceptFits, BackFits, BackerFits, BecomeFits}
use Rattle.tsp_promises.specs.MeasureFits.{RequestFits, ReplyFits, SampleFits}
use Rattle.tsp_promises.specs.{RoundFits.CloseFits, RoundFits.StartFits, StepFacts.StepEnds, StepFacts.is_answered, StepFacts.is_unbacked}
use Rattle.tsp_rules.specs.CommonRows.{master_name_in}

-- what the post of a numbered message owes that is no correction: it begins a send with the port's own next number,
-- from 32,768 to 65,535, where no ticket is, or it repeats the open send
pub record NumberedFits (here : Did) (before : List Seen) (p : PeerId) (m : MessageValue) : Type 0 where
  pub number : 32768 ≤ m.number
  pub next : acting before ≡ true → m.number ≡ 32768 + (word (plain before) + begun before) % 32768
  pub repeats : acting before ≡ false → RepeatFits here before p m

-- a candidate asks for votes only when it has backed itself
pub record ElectionFits (here : Did) (before : List Seen) (p : PeerId) (m : MessageValue) : Type 0 where
  pub numbered : NumberedFits here before p m
  pub backs : is_unbacked before ≡ false

-- what a SETDATEREQ owes, by which a date is passed on to the master
pub record DateRequestFits (here : Did) (before : List Seen) (p : PeerId) (m : MessageValue) : Type 0 where
  pub numbered : NumberedFits here before p m
  pub begins : acting before ≡ true → PassOnFits here before

-- what the post of a message to a peer owes, by its kind; kinds that only clients send are never posted
abbrev pub MessageFits : Setup → Kind → Did → List Seen → PeerId → MessageValue → Type 0
MessageFits setup AdjTime here before p m = CorrectionFits here before p m
MessageFits setup SetTime here before p m = CorrectionFits here before p m
MessageFits setup Ack here before p m = AckFits (Peer p) before m.number
MessageFits setup SlaveUp here before p m = m.number ≡ ticket (plain before)
MessageFits setup Accept here before p m = AcceptFits before p m.number
MessageFits setup Election here before p m = ElectionFits here before p m
MessageFits setup Conflict here before p m = NumberedFits here before p m
MessageFits setup QuitKind here before p m = NumberedFits here before p m
MessageFits setup SetDateReq here before p m = DateRequestFits here before p m
MessageFits setup DateAck here before p m = DateAckFits (Peer p) here before m.number
MessageFits setup LoopKind here before p m = LoopFits setup before m
MessageFits setup MasterReq here before p m = Unit {0}
MessageFits setup MasterAck here before p m = Unit {0}
MessageFits setup MasterUp here before p m = Unit {0}
MessageFits setup Refuse here before p m = Unit {0}
MessageFits setup ResolveKind here before p m = Unit {0}
MessageFits setup TraceOn here before p m = ⊥
MessageFits setup TraceOff here before p m = ⊥
MessageFits setup Msite here before p m = ⊥
MessageFits setup MsiteReq here before p m = ⊥
MessageFits setup Test here before p m = ⊥
MessageFits setup Date here before p m = ⊥
MessageFits setup DateReq here before p m = ⊥
MessageFits setup SetDate here before p m = ⊥

-- what the post of a message to a stranger owes: only ACKs and DATEACKs go there
abbrev pub StrangerFits : Kind → Did → List Seen → ℕ → Type 0
StrangerFits Ack here before number = AckFits Stranger before number
StrangerFits DateAck here before number = DateAckFits Stranger here before number
StrangerFits _ here before number = ⊥

-- whether messages of this kind ask for the master's name
abbrev pub asks_name : Kind → Bool
asks_name Msite = true
asks_name _ = false

-- the name that an answer to a message of this kind has: that of the master that the port knows of, where the message
-- asks for it, and else the node's own
abbrev pub answer_name : Kind → Setup → List Seen → List ℕ
answer_name kind setup before = if asks_name kind then master_name_in (role before) setup.name (kept_name before) else setup.name

-- an answer to what the step has taken from a stranger has that name
abbrev pub NamedFits : Setup → List Seen → MessageValue → Type 0
NamedFits setup before m = (asked : MessageValue) → TakesFrom before Stranger (Message asked) → m.name ≡ answer_name asked.kind setup before

-- what a post owes, by its addressee; strangers get answers alone, and at most one in a step
abbrev pub PostFits : Setup → Place → Datagram → Did → List Seen → Type 0
PostFits setup (Peer p) (Message m) here before = MessageFits setup m.kind here before p m
PostFits setup (Peer p) (Stamp (Request word counter)) here before = RequestFits before word counter
PostFits setup Stranger (Message m) here before = StrangerFits m.kind here before m.number × ((is_answered before ≡ false) × NamedFits setup before m)
PostFits setup Stranger (Stamp (Request word counter)) here before = ⊥
PostFits setup (Peer p) (Stamp (Reply reply)) here before = ReplyFits here before (Peer p) reply
PostFits setup Stranger (Stamp (Reply reply)) here before = ReplyFits here before Stranger reply × (is_answered before ≡ false)

-- questions that are answered in the quiet time too, the first QUIET ticks after a boot
abbrev pub is_answered_early : Kind → Bool
is_answered_early Msite = true
is_answered_early TraceOn = true
is_answered_early TraceOff = true
is_answered_early _ = false

-- the step took such a question from there, with this number
pub record AskedEarly (to : Place) (before : List Seen) (number : ℕ) : Type 0 where
  pub message : MessageValue
  pub took : TakesFrom before to (Message message)
  pub kind : is_answered_early message.kind ≡ true
  pub number_is : message.number ≡ number

-- what may be posted in the quiet time: to the sender of a stamp request that the step took, the reply with its word and
-- counter; and to the sender of such a question, the acknowledgment of its number
abbrev pub AnswersEarly : Place → Datagram → List Seen → Type 0
AnswersEarly to (Stamp (Reply reply)) before = TakesFrom before to (Stamp (Request reply.word reply.counter))
AnswersEarly to (Stamp (Request word counter)) before = ⊥
AnswersEarly to (Message m) before = (m.kind ≡ Ack) × AskedEarly to before m.number

-- what any post owes: in the first QUIET ticks after the boot nothing but such answers is posted
pub record PostsFit (setup : Setup) (to : Place) (datagram : Datagram) (here : Did) (before : List Seen) : Type 0 where
  pub rested : (boot_tick (plain before) + QUIET ≤ here.tick) ⊎ AnswersEarly to datagram before
  pub fits : PostFits setup to datagram here before

-- what an act owes; a step takes at most one datagram, on whatever port
abbrev pub ActFits : Setup → Act → Did → List Seen → Type 0
ActFits setup (Post to datagram) here before = PostsFit setup to datagram here before
ActFits setup (Took from taken) here before = heard (plain before) ≡ None
ActFits setup (Become r) here before = BecomeFits setup r here before
ActFits setup (Back p) here before = BackFits here before p
ActFits setup (Backer p) here before = BackerFits setup here before p
ActFits setup (Arm CloseAlarm at) here before = StartFits here before
ActFits setup (Quit p) here before = QuitFits before p
ActFits setup (Sample p counter diff err number) here before = SampleFits here before p counter diff err number
ActFits setup (Close count lo size mean) here before = CloseFits here before
ActFits setup (Correct amount stepped shown) here before = CorrectFits setup here before amount stepped shown
ActFits setup (Acked p) here before = AckedFits before p
ActFits setup _ here before = Unit {0}

-- what a deed owes: the mark of a new step, that the step before it has ended as it must (StepEnds); an act, what
-- ActFits says
abbrev pub DeedFits : Setup → Deed → Did → List Seen → Type 0
DeedFits setup Begins here before = StepEnds setup before
DeedFits setup (Acts a) here before = ActFits setup a here before
