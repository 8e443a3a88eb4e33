-- What goes to strangers answers what was taken from one.
use Rattle.std.proofs.Common.{sym, ap, subst, inl, inr, true≢false, ◌∙◌, ◌≡◌, true, false, if◌then◌else◌, List, [], ◌∷◌, Option, None, Some, refl}
use Rattle.tsp_rules.specs.Values.{Took, Post, Datagram, Message, Stamp, Good, Kind, Ack, DateAck, PeerId, Place, Peer, Stranger, Request, Reply}
use Rattle.tsp_base.specs.Words.{Begins, Acts, Deed, Did, Seen, Here, Elsewhere, MessageValue, Received, kept_name, message_in, role, taken, taken_after, Setup}
use Rattle.tsp_base.specs.Words.{TakesFrom}
use Rattle.tsp_promises.specs.{AckFits.AckFits, Answered.AnswersWith, Answered.acknowledges, Answered.is_answer, DateFits.DateAckFits}
use Rattle.tsp_promises.specs.DeedFits.{DeedFits, MessageFits, NamedFits, PostFits, StrangerFits, answer_name, asks_name}
use Rattle.tsp_promises.specs.{PortFits.PortFits, StepFacts.is_answered, StepFacts.is_answered_after}
use Rattle.tsp_rules.specs.CommonRows.{master_name_in}

-- what is posted to a stranger, and what it answers
pub record Answering (setup : Setup) (before : List Seen) (datagram : Datagram) : Type 0 where
  pub asked : Datagram
  pub took : TakesFrom before Stranger asked
  pub answer : AnswersWith asked datagram
  pub first : is_answered before ≡ false
  pub named : (m message : MessageValue) → datagram ≡ Message m → asked ≡ Message message → m.name ≡ answer_name message.kind setup before

-- what is posted as an answer, and what it answers
pub record Asked (to : Place) (before : List Seen) (datagram : Datagram) : Type 0 where
  pub asked : Datagram
  pub took : TakesFrom before to asked
  pub answer : AnswersWith asked datagram

ack_asked : (to : Place) (before : List Seen) (m : MessageValue) → m.kind ≡ Ack → AckFits to before m.number → Asked to before (Message m)
ack_asked to before m is f = record { asked = Message f.message; took = f.took; answer = (inl is, sym f.number_is) }

date_asked : (to : Place) (here : Did) (before : List Seen) (m : MessageValue) → m.kind ≡ DateAck → DateAckFits to here before m.number →
    Asked to before (Message m)
date_asked Stranger here before m is f = record { asked = Message f.message; took = f.took; answer = (inr is, sym f.number_is) }
date_asked (Peer p) here before m is f = elim f [
  | inl c ↦ record { asked = Message c.message; took = c.took; answer = (inr is, sym c.number_is) }
  | inr c ↦ record { asked = Message c.message; took = c.took; answer = (inr is, sym c.number_is) }
]

peer_asked : (setup : Setup) (k : Kind) (here : Did) (before : List Seen) (p : PeerId) (m : MessageValue) → m.kind ≡ k → acknowledges k ≡ true →
    MessageFits setup k here before p m → Asked (Peer p) before (Message m)
peer_asked setup Ack here before p m is e f = ack_asked (Peer p) before m is f
peer_asked setup DateAck here before p m is e f = date_asked (Peer p) here before m is f
peer_asked setup _ here before p m is e f = absurd (true≢false (sym e))

stranger_asked : (k : Kind) (here : Did) (before : List Seen) (m : MessageValue) → m.kind ≡ k → StrangerFits k here before m.number →
    Asked Stranger before (Message m)
stranger_asked Ack here before m is f = ack_asked Stranger before m is f
stranger_asked DateAck here before m is f = date_asked Stranger here before m is f
stranger_asked _ here before m is f = absurd f

pub answers_asked : (setup : Setup) (to : Place) (datagram : Datagram) (here : Did) (before : List Seen) → PostFits setup to datagram here before →
    is_answer datagram ≡ true → Asked to before datagram
answers_asked setup (Peer p) (Message m) here before f e = peer_asked setup m.kind here before p m refl e f
answers_asked setup Stranger (Message m) here before f e = stranger_asked m.kind here before m refl f.0
answers_asked setup to (Stamp (Request word counter)) here before f e = absurd (true≢false (sym e))
answers_asked setup (Peer p) (Stamp (Reply reply)) here before f e = record {
  asked = Stamp (Request reply.word reply.counter);
  took = f.took;
  answer = (refl, refl);
}
answers_asked setup Stranger (Stamp (Reply reply)) here before f e = record {
  asked = Stamp (Request reply.word reply.counter);
  took = f.0.took;
  answer = (refl, refl);
}

named_as : (setup : Setup) (before : List Seen) (m : MessageValue) (asked : Datagram) → TakesFrom before Stranger asked → NamedFits setup before m →
    (n message : MessageValue) → Message m ≡ Message n → asked ≡ Message message → n.name ≡ answer_name message.kind setup before
named_as setup before m asked took named n message answer is =
    let same : m ≡ n = cc in
    subst (λ (a : MessageValue). a.name ≡ answer_name message.kind setup before) same (named message (subst (λ d. TakesFrom before Stranger d) is took))

pub answering : (setup : Setup) (datagram : Datagram) (here : Did) (before : List Seen) → PostFits setup Stranger datagram here before →
    Answering setup before datagram
answering setup (Message m) here before f =
    let a = stranger_asked m.kind here before m refl f.0 in
    record { asked = a.asked; took = a.took; answer = a.answer; first = f.1.0; named = named_as setup before m a.asked a.took f.1.1 }
answering setup (Stamp (Request word counter)) here before f = absurd f
answering setup (Stamp (Reply reply)) here before f = record {
  asked = Stamp (Request reply.word reply.counter);
  took = f.0.took;
  answer = (refl, refl);
  first = f.1;
  named = λ m message e. let bad : ⊥ = cc in absurd bad;
}

-- a port that has taken nothing in this step has posted nothing to a stranger
answered_deed : (setup : Setup) (d : Did) (before : List Seen) (deed : Deed) → DeedFits setup deed d before →
    (taken before ≡ None → is_answered before ≡ false) → taken_after deed (taken before) ≡ None → is_answered_after deed (is_answered before) ≡ false
answered_deed setup d before Begins f o e = refl
answered_deed setup d before (Acts (Took from t)) f o e = let bad : ⊥ = cc in absurd bad
answered_deed setup d before (Acts (Post Stranger datagram)) f o e = let a = (answering setup datagram d before f.fits).took in let bad : ⊥ =
    (let k = sym e ∙ a in cc) in absurd bad
answered_deed setup d before _ f o e = o e

pub unanswered : (setup : Setup) (seen : List Seen) → PortFits setup seen → taken seen ≡ None → is_answered seen ≡ false
unanswered setup [] f e = refl
unanswered setup (Elsewhere d ∷ before) f e = unanswered setup before f e
unanswered setup (Here d ∷ before) f e = answered_deed setup d before d.deed f.0 (unanswered setup before f.1) e

abbrev message_taken : Option Received → Option MessageValue
message_taken None = None
message_taken (Some r) = message_in r.taken

pub same_message : (from to : Place) (m asked : MessageValue) (o : Option Received) → o ≡ Some (record { from = from; taken = Good (Message m) }) → o ≡
    Some (record { from = to; taken = Good (Message asked) }) → m ≡ asked
same_message from to m asked o e f =
    let both : Some m ≡ Some asked = ap message_taken (sym e ∙ f) in
    cc

-- an answer in the node's own name
pub own_named : (setup : Setup) (from : Place) (m answer : MessageValue) (seen : List Seen) → taken seen ≡
    Some (record { from = from; taken = Good (Message m) }) → answer.name ≡ setup.name → asks_name m.kind ≡ false → NamedFits setup seen answer
own_named setup from m answer seen took name other asked took_asked =
    let same : m ≡ asked = same_message from Stranger m asked (taken seen) took took_asked in
    name ∙ sym (ap (λ b. if b then master_name_in (role seen) setup.name (kept_name seen) else setup.name) (subst (λ (z : MessageValue). asks_name z.kind ≡
    false) same other))

-- an answer that names the master
pub master_named : (setup : Setup) (from : Place) (m answer : MessageValue) (seen : List Seen) → taken seen ≡
    Some (record { from = from; taken = Good (Message m) }) → answer.name ≡ master_name_in (role seen) setup.name (kept_name seen) → asks_name m.kind ≡ true →
    NamedFits setup seen answer
master_named setup from m answer seen took name asks asked took_asked =
    let same : m ≡ asked = same_message from Stranger m asked (taken seen) took took_asked in
    name ∙ sym (ap (λ b. if b then master_name_in (role seen) setup.name (kept_name seen) else setup.name) (subst (λ (z : MessageValue). asks_name z.kind ≡
    true) same asks))
