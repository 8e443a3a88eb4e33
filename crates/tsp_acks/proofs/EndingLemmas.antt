-- How sends that end keep what a station stands for.
use Rattle.std.proofs.Common.{sym, ◌∙◌, ap, ◌≡◌, ℕ, ◌==◌, Bool, true, false, ◌&&◌, if◌then◌else◌, List, [], ◌∷◌, ◌++◌, Option, Some, None, MatchBool, refl}
use Rattle.tsp_rules.specs.SendRows.{answers_election, answers_other, ends_by_ack, has_other, is_kind_election, acknowledges}
use Rattle.tsp_rules.specs.{Values.Acked, Values.Placed, Values.PeerId, Values.Port, DateRows.answers_date}
use Rattle.tsp_base.specs.Words.{Past, Performs, nothing, puts, Sending, is_set_date_request}
use Rattle.tsp_base.proofs.SendLemmas.{open_send_acked}
use Rattle.tsp_base.proofs.PerformsLemmas.{Performs_then_part, Performs_else_part, Performs_nothing}
use Rattle.tsp_sends.specs.Slots.{SetsOnly, kind_of, has_number, sending_to}
use Rattle.tsp_acks.specs.declared.ends.Answer.{Answer, TheVariants.Vote, TheVariants.Date, TheVariants.Ack}
use Rattle.tsp_acks.specs.declared.station.Station.{Station}
use Rattle.tsp_acks.specs.{Changes.ChangesSends, Openings.is_of, Openings.answered_by, Openings.has_open, Stands.StationStands}

-- the open send to a peer ends
pub Performs_acked : (p : PeerId) {x : ℕ} {port : Port} {before after : Station} {old new : List Placed} → ChangesSends before after → after.begun ≡
    before.begun → SetsOnly p None before.sends after.sends →
    new ≡ old ++ record { port = port; act = Acked p } ∷ [] → Performs StationStands StationStands (puts (Acked p)) x port before after old new
unfolding puts
Performs_acked p {x = x} {before = before} {after = after} same count only acts = record {
  acts = λ past s. acts;
  stands = λ past s. record {
    own = ap (λ i. i.own) same.me ∙ s.own;
    name = ap (λ i. i.name) same.me ∙ s.name;
    may = ap (λ i. i.may) same.me ∙ s.may;
    strict = ap (λ i. i.strict) same.me ∙ s.strict;
    peers = same.peers ∙ s.peers;
    word = ap (λ i. i.word) same.me ∙ s.word;
    role = same.role ∙ s.role;
    alarms = same.alarms ∙ s.alarms;
    hold = same.hold ∙ s.hold;
    sends = λ q. only q ∙ ap (λ o. if p.0 == q.0 then None else o) (s.sends q) ∙ sym (open_send_acked past.step x q p past.seen);
    begun = count ∙ s.begun;
    backers = same.backers ∙ s.backers;
  };
}

-- an open send of the right kind that has this number
pub answers_election_is : (number : ℕ) (o : Option Sending) → (is_of is_kind_election (kind_of o) && has_number number o) ≡ answers_election number o
answers_election_is number None = refl
answers_election_is number (Some s) = refl

pub answers_date_is : (number : ℕ) (o : Option Sending) → (is_of is_set_date_request (kind_of o) && has_number number o) ≡ answers_date number o
answers_date_is number None = refl
answers_date_is number (Some s) = refl

pub answers_other_is : (number : ℕ) (o : Option Sending) → (is_of ends_by_ack (kind_of o) && has_number number o) ≡ answers_other number o
answers_other_is number None = refl
answers_other_is number (Some s) = refl

-- whether the open send is one that an answer ends, as the station has it
pub has_open_is : (a : Answer) (p : PeerId) (number x : ℕ) (past : Past) (s : Station) → StationStands past s →
    has_open a p number x past ≡ (is_of (answered_by a) (kind_of (sending_to s.sends p)) && has_number number (sending_to s.sends p))
has_open_is Vote p number x past s h = ap (answers_election number) (sym (h.sends p)) ∙ sym (answers_election_is number (sending_to s.sends p))
has_open_is Date p number x past s h = ap (answers_date number) (sym (h.sends p)) ∙ sym (answers_date_is number (sending_to s.sends p))
has_open_is Ack p number x past s h = ap (answers_other number) (sym (h.sends p)) ∙ sym (answers_other_is number (sending_to s.sends p))

-- where the open send is of the right kind, its number decides, and else none is answered
pub has_open_of : (a : Answer) (p : PeerId) (number x : ℕ) (past : Past) (s : Station) {b : Bool} → is_of (answered_by a) (kind_of (sending_to s.sends p)) ≡ b →
    StationStands past s →
    has_open a p number x past ≡ (b && has_number number (sending_to s.sends p))
has_open_of a p number x past s e h = has_open_is a p number x past s h ∙ ap (λ b. b && has_number number (sending_to s.sends p)) e

-- an ACK ends the send that it names, or nothing
pub Performs_acknowledges : (p : PeerId) (number : ℕ) {x : ℕ} {port : Port} {before after : Station} {old new : List Placed} (ends : Bool) →
    ((past : Past) → StationStands past before → has_other p number x past ≡ ends) →
    (ends ≡ true → Performs StationStands StationStands (puts (Acked p)) x port before after old new) →
    MatchBool ends (SetsOnly p None before.sends after.sends) (after ≡ before) → (ends ≡ false → new ≡ old) →
    Performs StationStands StationStands (acknowledges p number) x port before after old new
unfolding acknowledges
Performs_acknowledges p number true t f s g = Performs_then_part (has_other p number) nothing t (f refl)
Performs_acknowledges p number {before = before} {after = after} false t f s g = let same : after ≡ before = s in
    rw (same, g refl) (Performs_else_part (has_other p number) (puts (Acked p)) t Performs_nothing)
