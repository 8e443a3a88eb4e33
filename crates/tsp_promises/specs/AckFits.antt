-- What acknowledgments owe to their port's past: those that are posted and those that are taken.
use Rattle.std.specs.Prelude.{◌≡◌, ℕ, true, List, ◌∷◌, Some}
use Rattle.tsp_rules.specs.Values.{Post, Message, Kind, Ack, AdjTime, Conflict, Date, DateAck, Msite, MsiteReq, QuitKind, SetDate, SetDateReq, SetTime, Test}
use Rattle.tsp_rules.specs.Values.{TraceOff, TraceOn, PeerId, Place, Peer, Stranger}
use Rattle.tsp_base.specs.Words.{Did, Acts, Seen, Here, MessageValue, is_correction, open_to, last_taken, Receives, TakesFrom}

-- the node's last Correct took the correction with this number, from that peer and on this port; a stranger's is never
-- taken
abbrev pub TookLast : Place → List Seen → ℕ → Type 0
TookLast (Peer p) before number = last_taken before ≡ Some (record { from = p; number = number })
TookLast Stranger before number = ⊥

-- what an ACK may answer, by the kind of the message: CONFLICT, QUIT, DATE, SETDATE, MSITE, MSITEREQ, TEST, TRACEON and
-- TRACEOFF; an ADJTIME or a SETTIME only where the node's last Correct took it, with this number and from there; no
-- other kind
abbrev pub Answers : Kind → Place → List Seen → ℕ → Type 0
Answers AdjTime to before number = TookLast to before number
Answers SetTime to before number = TookLast to before number
Answers Conflict to before number = Unit {0}
Answers QuitKind to before number = Unit {0}
Answers Date to before number = Unit {0}
Answers SetDate to before number = Unit {0}
Answers Msite to before number = Unit {0}
Answers MsiteReq to before number = Unit {0}
Answers Test to before number = Unit {0}
Answers TraceOn to before number = Unit {0}
Answers TraceOff to before number = Unit {0}
Answers _ to before number = ⊥

-- an ACK answers the message that the step took from its addressee, and has its number
pub record AckFits (to : Place) (before : List Seen) (number : ℕ) : Type 0 where
  pub message : MessageValue
  pub took : TakesFrom before to (Message message)
  pub number_is : message.number ≡ number
  pub answers : Answers message.kind to before number

-- the step took an answer of this kind, with this number, from p
pub record Acknowledges (answer : Kind) (before : List Seen) (p : PeerId) (number : ℕ) : Type 0 where
  pub message : MessageValue
  pub took : Receives before p (Message message)
  pub kind : message.kind ≡ answer
  pub number_is : message.number ≡ number

-- the send of a correction is ended by an ACK of its number, that of a date which is passed on by a DATEACK of its
-- number
pub record EndsFits (before : List Seen) (p : PeerId) (m : MessageValue) : Type 0 where
  pub correction : is_correction m.kind ≡ true → Acknowledges Ack before p m.number
  pub date : m.kind ≡ SetDateReq → Acknowledges DateAck before p m.number

-- what an Acked owes, by the message of the open send to p that it ends
abbrev pub AckedFits : List Seen → PeerId → Type 0
AckedFits before p = (first : Did) (older : List Seen) (m : MessageValue) → open_to p before ≡ Here first ∷ older → first.deed ≡
    Acts (Post (Peer p) (Message m)) → EndsFits before p m
