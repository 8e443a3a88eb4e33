-- How sends that begin keep what a station stands for.
use Rattle.std.proofs.Common.{sym, ◌∙◌, ap, arith, ◌≡◌, ℕ, ℤ, ◌+◌, ◌%◌, ◌==◌, Bool, true, false, ◌&&◌, if◌then◌else◌, List, [], ◌∷◌, ◌++◌, Some, refl}
use Rattle.tsp_rules.specs.Values.{Post, Placed, Message, Kind, AdjTime, Conflict, Election, QuitKind, SetDateReq, SetTime, Nothing, TimeBody, PeerId, Peer}
use Rattle.tsp_rules.specs.Values.{Port}
use Rattle.tsp_base.specs.Words.{Past, plain, carries_time, carries_hops, MessageValue, body_fits, word, Performs, Row, bare, timed, for_each, grown, others}
use Rattle.tsp_base.specs.Words.{reading, posts, posts_time, post_of, has_own_number, is_correction, is_numbered, is_set_date_request, begun}
use Rattle.tsp_base.proofs.{PerformsLemmas.Performs_each_more, RowLemmas.others_more, SendLemmas.open_send_begins}
use Rattle.tsp_rules.specs.SendRows.{next_number, begins, begins_timed}
use Rattle.tsp_sends.specs.Slots.{SetsOnly}
use Rattle.tsp_acks.specs.declared.station.Station.{Station}
use Rattle.tsp_acks.specs.{Changes.ChangesSends, Openings.is_bare_send, Stands.StationStands, Stands.StandsActing, Stands.own_number}

-- what the kinds of a send are: which body fits, whether it is numbered, and whether by the port itself
pub is_bare_send_fits : (k : Kind) → is_bare_send k ≡ true → body_fits k Nothing ≡ true
unfolding body_fits carries_time carries_hops
is_bare_send_fits Election e = refl
is_bare_send_fits Conflict e = refl
is_bare_send_fits QuitKind e = refl
is_bare_send_fits _ e = let bad : ⊥ = cc in absurd bad

pub is_bare_send_own : (k : Kind) → is_bare_send k ≡ true → (is_numbered k ≡ true) × (has_own_number k ≡ true)
is_bare_send_own Election e = (refl, refl)
is_bare_send_own Conflict e = (refl, refl)
is_bare_send_own QuitKind e = (refl, refl)
is_bare_send_own _ e = let bad : ⊥ = cc in absurd bad

is_date_is : (k : Kind) → is_set_date_request k ≡ true → k ≡ SetDateReq
is_date_is SetDateReq e = refl
is_date_is _ e = let bad : ⊥ = cc in absurd bad

pub is_date_own : (k : Kind) → is_set_date_request k ≡ true → (is_numbered k ≡ true) × (has_own_number k ≡ true)
is_date_own k e = rw (is_date_is k e) (refl, refl)

pub is_date_fits : (k : Kind) (t : ℤ) → is_set_date_request k ≡ true → body_fits k (TimeBody t) ≡ true
unfolding body_fits carries_time
is_date_fits k t e = rw (is_date_is k e) refl

pub is_correction_fits : (k : Kind) (t : ℤ) → is_correction k ≡ true → body_fits k (TimeBody t) ≡ true
unfolding body_fits carries_time
is_correction_fits AdjTime t e = refl
is_correction_fits SetTime t e = refl
is_correction_fits _ t e = let bad : ⊥ = cc in absurd bad

pub is_correction_other : (k : Kind) → is_correction k ≡ true → (is_numbered k ≡ true) × (has_own_number k ≡ false)
is_correction_other AdjTime e = (refl, refl)
is_correction_other SetTime e = (refl, refl)
is_correction_other _ e = let bad : ⊥ = cc in absurd bad

count_more : (n : ℕ) → (n % 32768 + 1) % 32768 ≡ (n + 1) % 32768
count_more n = omega arith

turn_is : (w n : ℕ) → (w + n % 32768) % 32768 ≡ (w + n) % 32768
turn_is w n = omega arith

-- the station's next number is its past's
number_is : (x : ℕ) (past : Past) (station : Station) → StationStands past station → own_number station ≡ next_number x past
number_is x past station s = rw (s.word, s.begun) (ap (λ n. 32768 + n) (turn_is (word (plain past.seen)) (begun past.seen)))

-- a message is posted, and the station has it as an open send that has just begun
pub record Opened (p : PeerId) (m : MessageValue) (x : ℕ) (port : Port) (before after : Station) (old new : List Placed) : Type 0 where
  pub numbered : is_numbered m.kind ≡ true
  pub rest : ChangesSends before after
  pub acts : new ≡ old ++ record { port = port; act = Post (Peer p) (Message m) } ∷ []
  pub sends : SetsOnly p (Some (record { began = x; posts = 1; message = m })) before.sends after.sends
  pub count : after.begun ≡ (if has_own_number m.kind then (before.begun + 1) % 32768 else before.begun)

-- the count of sends with own numbers, where this one is such a send or isn't
counted : (own : Bool) (n k : ℕ) → k ≡ n % 32768 → (if own then (k + 1) % 32768 else k) ≡ (if own && true then n + 1 else n) % 32768
counted true n k e = rw e (count_more n)
counted false n k e = e

StandsActing_opened : {p : PeerId} {m : MessageValue} {x : ℕ} {port : Port} {before after : Station} {old new : List Placed} →
    Opened p m x port before after old new →
    (past : Past) → StandsActing past before → StandsActing (grown x past (Post (Peer p) (Message m) ∷ [])) after
StandsActing_opened {p = p} {m = m} {x = x} {before = before} {after = after} o past h = record {
  stands = record {
    own = ap (λ i. i.own) o.rest.me ∙ h.stands.own;
    name = ap (λ i. i.name) o.rest.me ∙ h.stands.name;
    may = ap (λ i. i.may) o.rest.me ∙ h.stands.may;
    strict = ap (λ i. i.strict) o.rest.me ∙ h.stands.strict;
    peers = o.rest.peers ∙ h.stands.peers;
    word = ap (λ i. i.word) o.rest.me ∙ h.stands.word;
    role = o.rest.role ∙ h.stands.role;
    alarms = o.rest.alarms ∙ h.stands.alarms;
    hold = o.rest.hold ∙ h.stands.hold;
    sends = λ q. o.sends q ∙ ap (λ s. if p.0 == q.0 then Some (record { began = x; posts = 1; message = m }) else s) (h.stands.sends q)
        ∙ sym (open_send_begins past.step x q p m past.seen o.numbered h.acted);
    begun = o.count ∙ counted (has_own_number m.kind) (begun past.seen) before.begun h.stands.begun
        ∙ ap (λ acts. (if has_own_number m.kind && acts then begun past.seen + 1 else begun past.seen) % 32768) (sym h.acted);
    backers = o.rest.backers ∙ h.stands.backers;
  };
  acted = h.acted;
}

-- a send begins by this post
pub Performs_opened : {p : PeerId} {m : MessageValue} {x : ℕ} {port : Port} {before after : Station} {old new : List Placed} (row : Row) →
    ((past : Past) → StationStands past before → row x past ≡ Post (Peer p) (Message m) ∷ []) →
    Opened p m x port before after old new → Performs StandsActing StandsActing row x port before after old new
Performs_opened row is o = record {
  acts = λ past h. rw (is past h.stands) o.acts;
  stands = λ past h. rw (is past h.stands) (StandsActing_opened o past h);
}

-- the posts by which sends begin, as the station has them
pub begins_is : (kind : Kind) (p : PeerId) (x : ℕ) (past : Past) (station : Station) → StationStands past station →
    begins kind p x past ≡ Post (Peer p) (Message (bare kind (own_number station) station.me.name)) ∷ []
unfolding begins reading posts
begins_is kind p x past station s =
    ap (λ n. post_of kind n past.name p ∷ []) (sym (number_is x past station s)) ∙ ap (λ name. post_of kind (own_number station) name p ∷ []) (sym s.name)

pub begins_timed_is : (kind : Kind) (p : PeerId) (t : ℤ) (x : ℕ) (past : Past) (station : Station) → StationStands past station →
    begins_timed kind p t x past ≡ Post (Peer p) (Message (timed kind (own_number station) t station.me.name)) ∷ []
unfolding begins_timed reading posts_time
begins_timed_is kind p t x past station s =
    ap (λ n. Post (Peer p) (Message (timed kind n t past.name)) ∷ []) (sym (number_is x past station s))
    ∙ ap (λ name. Post (Peer p) (Message (timed kind (own_number station) t name)) ∷ []) (sym s.name)

pub posts_time_is : (kind : Kind) (p : PeerId) (number : ℕ) (t : ℤ) (x : ℕ) (past : Past) (station : Station) → StationStands past station →
    posts_time p kind number t x past ≡ Post (Peer p) (Message (timed kind number t station.me.name)) ∷ []
unfolding posts_time
posts_time_is kind p number t x past station s = ap (λ name. Post (Peer p) (Message (timed kind number t name)) ∷ []) (sym s.name)

-- sends have begun to the others of some peers, and then to one peer more, or not where that is the own one
pub Performs_begun_more : (kind : Kind) (own p : PeerId) (ps : List PeerId) {x : ℕ} {port : Port} {first middle last : Station} {old mid new : List Placed} →
    (p.0 ≡ own.0 → ⊥) →
    Performs StandsActing StandsActing (for_each (begins kind) (others own ps)) x port first middle old mid →
    Performs StandsActing StandsActing (begins kind p) x port middle last mid new →
    Performs StandsActing StandsActing (for_each (begins kind) (others own (ps ++ p ∷ []))) x port first last old new
Performs_begun_more kind own p ps n a b = rw (others_more own p ps n) (Performs_each_more (begins kind) (others own ps) p a b)
