-- The rows that take a message, of whichever role, keep what is known of a port.
use Rattle.std.proofs.Common.{sym, subst, ap, true≢false, eqb-true, ◌∙◌, ◌≡◌, ◌≢◌, ℕ, ◌==◌, Bool, true, false, List, [], ◌∷◌, Option, None, Some, refl}
use Rattle.std.proofs.lemmas.Bool.{and_parts, not-true}
use Rattle.tsp_rules.proofs.{RowsOther.follows_unless_other, Asides.now, GuardFacts.stand_is, GuardFacts.awake_is, GuardFacts.master_is}
use Rattle.tsp_rules.specs.Values.{Post, Acked, Quit, Trace, Message, Stamp, Taken, Good, Kind, Ack, Election, QuitKind, PeerId, Place, Peer, Stranger, Role}
use Rattle.tsp_rules.specs.Values.{Starting, Follow, Master, Request, Reply}
use Rattle.tsp_rules.specs.CommonRows.{quits, follows_unless, follow_row, posts_reply, replies, master_name, names_master, says_master, traces, tests, is_awake}
use Rattle.tsp_rules.specs.CommonRows.{is_idle, may_be_asked, candidature_row}
use Rattle.tsp_rules.specs.SendRows.{has_other, answers_other, has_election, answers_election, is_kind_election, ends_by_ack, acknowledges}
use Rattle.tsp_rules.specs.Guards.{role_at, is_in_range, is_master_at, is_starting_role, may_stand_at}
use Rattle.tsp_base.specs.Words.{Did, Acts, Seen, Here, Past, plain, may_stand, Leads, MessageValue, boot_tick, ticket, target, is_among, Received, Said, role}
use Rattle.tsp_base.specs.Words.{said, taken, held, grown, nothing, puts, ◌followed_by◌, either_by, reading, bare, posts, posts_back, is_correction, open_send}
use Rattle.tsp_base.specs.Words.{open_to, posts_of, sending_at, sending_of, message_of, Setup, peer_of}
use Rattle.tsp_base.proofs.LeadsLemmas.{Leads_then, Leads_either, Leads_reading, Leads_nothing, Leads_puts, Leads_from, Leads_to}
use Rattle.tsp_promises.specs.AckFits.{AckFits, AckedFits, Answers}
use Rattle.tsp_promises.specs.{PortFits.setup_in, DeedFits.NamedFits, DeedFits.PostFits, DeedFits.asks_name, DeedFits.is_answered_early}
use Rattle.tsp_promises.specs.{QuitFits.QuitFits, StepFacts.is_answered, StepFacts.owes, StepFacts.owes_after}
use Rattle.tsp_promises.proofs.leads.PostLeaves.{post_back, post_reply, post_early, Leads_posts, Leads_posts_back}
use Rattle.tsp_promises.proofs.leads.Known.{During, Free, Early, RestsIn, Rests}
use Rattle.tsp_promises.proofs.leads.Changes.{rested_of, wake, Quitting, FreeIn, quit_acked, quit_taken, Is, JustTook}
use Rattle.tsp_promises.proofs.shared.StrangerFacts.{master_named, own_named}
use Rattle.tsp_promises.proofs.{leads.CommonLeads.follow_leads, leads.CommonLeads.candidature_leads, leads.Leaves.none_among, leads.Leaves.trace}
use Rattle.tsp_promises.proofs.{leads.Leaves.acked}

-- what a step took from a peer: a message
abbrev pub Says : PeerId → MessageValue → Option Received → Option Received → Type 0
Says p m = Is (Peer p) (Good (Message m))

pub rests_of : {stirred awake : Bool} {T : Option Received → Option Received → Type 0} {x : ℕ} {past : Past} → During stirred awake false [] true T x past →
    RestsIn stirred x past
rests_of h = record { fits = h.fits; knows = h.knows; backs = h.backs; follows = λ p e. none_among p h.owed e; paid = h.paid }

-- a port that isn't Starting
pub wake_role : {stirred awake owing acts : Bool} {follow : List PeerId} {T : Option Received → Option Received → Type 0} {x : ℕ} {past : Past} →
    role past.seen ≢ Starting → During stirred awake owing follow acts T x past → During stirred true owing follow acts T x past
wake_role {x = x} {past = past} n h = wake (rested_of x (boot_tick (plain past.seen)) h.knows.quiet.rested n) h

pub took_awake : {from : Place} {t : Taken} {x : ℕ} {past : Past} → role past.seen ≢ Starting → JustTook false from t x past → JustTook true from t x past
took_awake n h = record { free = wake_role n h.free; took = h.took; rest = h.rest; is = h.is; deed = h.deed; unanswered = h.unanswered }

pub master_awake : (r : Role) → r ≡ Master → r ≢ Starting
master_awake r e s = let bad : ⊥ = cc in absurd bad

-- the ACK of a message
pub ack_fits : (from : Place) (m : MessageValue) (seen : List Seen) → taken seen ≡ Some (record { from = from; taken = Good (Message m) }) →
    Answers m.kind from seen m.number → AckFits from seen m.number
ack_fits from m seen took a = record { message = m; took = took; number_is = refl; answers = a }

ack_back : (setup : Setup) (from : Place) (m : MessageValue) (name : List ℕ) (d : Did) (seen : List Seen) → taken seen ≡
    Some (record { from = from; taken = Good (Message m) }) → Answers m.kind from seen m.number → is_answered seen ≡ false →
    NamedFits setup seen (bare Ack m.number name) → PostFits setup from (Message (bare Ack m.number name)) d seen
ack_back setup (Peer p) m name d seen took a none named = ack_fits (Peer p) m seen took a
ack_back setup Stranger m name d seen took a none named = (ack_fits Stranger m seen took a, (none, named))

-- a port that has posted nothing to a stranger in this step
pub record Unanswered (C : ℕ → Past → Type 0) (x : ℕ) (past : Past) : Type 0 where
  pub was : C x past
  pub none : is_answered past.seen ≡ false

-- the kinds that anybody may send are answered
module _ {from : Place} (m : MessageValue) (other : asks_name m.kind ≡ false) (answers : (seen : List Seen) → Answers m.kind from seen m.number) where
  pub acks_back : Leads (Unanswered (Free (Is from (Good (Message m))))) (posts_back from Ack m.number) (Free (Is from (Good (Message m))))
  acks_back = Leads_posts_back from Ack m.number (λ x past h.
      post_back from (bare Ack m.number past.name) refl (ack_back (setup_in past) from m past.name
      (now x past (Post from (Message (bare Ack m.number past.name)))) past.seen h.was.took (answers past.seen) h.none
      (own_named (setup_in past) from m (bare Ack m.number past.name) past.seen h.was.took refl other)) h.was)

  pub says_master_leads : Leads (Unanswered (Early (Is from (Good (Message m))))) (says_master from m.number) Rests
  unfolding says_master
  says_master_leads = Leads_either is_master_at (posts_back from Ack m.number) nothing
      (Leads_from (λ x past h. record { was = wake_role (master_awake (role past.seen) (master_is (role past.seen) h.1)) h.0.was; none = h.0.none })
      (Leads_to (λ x past h. rests_of h) acks_back))
      (Leads_from (λ x past h. rests_of h.0.was) Leads_nothing)

  pub tests_leads : Leads (Unanswered (Early (Is from (Good (Message m))))) (tests from m.number) Rests
  unfolding tests
  tests_leads = Leads_either is_awake (posts_back from Ack m.number followed_by either_by may_be_asked candidature_row nothing) nothing
      (Leads_from (λ x past h. record {
        was = wake_role (awake_is (role past.seen) (not-true (is_starting_role (role past.seen)) h.1)) h.0.was;
        none = h.0.none;
      }) (Leads_then (posts_back from Ack m.number) (either_by may_be_asked candidature_row nothing) acks_back
      (Leads_either may_be_asked candidature_row nothing
      (Leads_from (λ x past h.
      let asked = and_parts (is_idle (role past.seen)) (may_stand_at x past) h.1 in
      record { free = h.0; may = stand_is (held past.seen) x past.own (and_parts past.may (may_stand (held past.seen) x past.own) asked.1).1 })
      (Leads_to (λ x past h. rests_of h.free) candidature_leads))
      (Leads_from (λ x past h. rests_of h.0) Leads_nothing))))
      (Leads_from (λ x past h. rests_of h.0.was) Leads_nothing)

-- so they are in the quiet time too
module _ {from : Place} (m : MessageValue) (early : is_answered_early m.kind ≡ true) (answers : (seen : List Seen) → Answers m.kind from seen m.number) where
  names : (x : ℕ) (past : Past) (name : List ℕ) → NamedFits (setup_in past) past.seen (bare Ack m.number name) →
      Unanswered (Early (Is from (Good (Message m)))) x past → Rests x (grown x past (Post from (Message (bare Ack m.number name)) ∷ []))
  names x past name named h = rests_of (post_early from m.number name
      (ack_back (setup_in past) from m name (now x past (Post from (Message (bare Ack m.number name)))) past.seen h.was.took (answers past.seen) h.none named)
      (record { message = m; took = h.was.took; kind = early; number_is = refl }) h.was)

  pub names_master_leads : asks_name m.kind ≡ true → Leads (Unanswered (Early (Is from (Good (Message m))))) (names_master from m.number) Rests
  unfolding names_master
  names_master_leads asks = Leads_reading master_name (λ name. puts (Post from (Message (bare Ack m.number name))))
      (λ name. Leads_puts (Post from (Message (bare Ack m.number name))) (λ x past h. names x past name
      (master_named (setup_in past) from m (bare Ack m.number name) past.seen h.0.was.took (sym h.1) asks) h.0))

  pub traces_leads : (on : Bool) → asks_name m.kind ≡ false → Leads (Unanswered (Early (Is from (Good (Message m))))) (traces from m.number on) Rests
  unfolding traces
  traces_leads on other = Leads_then {Q = Unanswered (Early (Is from (Good (Message m))))} (puts (Trace on)) (posts_back from Ack m.number)
      (Leads_puts (Trace on) (λ x past h. record { was = trace on h.was; none = h.none }))
      (Leads_posts_back from Ack m.number (λ x past h. names x past past.name (own_named (setup_in past) from m (bare Ack m.number past.name) past.seen
      h.was.took refl other) h))

reply_fits : (setup : Setup) (from : Place) (word counter x : ℕ) (past : Past) → taken past.seen ≡
    Some (record { from = from; taken = Good (Stamp (Request word counter)) }) → is_answered past.seen ≡ false →
    PostFits setup from (Stamp (Reply (record { ticket = ticket (plain past.seen); word = word; counter = counter; reading = target (plain past.seen) x })))
    (now x past (Post from (Stamp (Reply (record {
      ticket = ticket (plain past.seen);
      word = word;
      counter = counter;
      reading = target (plain past.seen) x;
    }))))) past.seen
reply_fits setup (Peer p) word counter x past took none = record { took = took; ticket_is = refl; reading_is = refl }
reply_fits setup Stranger word counter x past took none = (record { took = took; ticket_is = refl; reading_is = refl }, none)

pub replies_lead : (from : Place) (word counter : ℕ) → Leads (Unanswered (Early (Is from (Good (Stamp (Request word counter)))))) (replies from word counter)
    Rests
unfolding replies posts_reply
replies_lead from word counter = Leads_either is_in_range (posts_reply from word counter) nothing
    (record {
      run = λ x past h. rests_of (post_reply from (record {
        ticket = ticket (plain past.seen);
        word = word;
        counter = counter;
        reading = target (plain past.seen) x;
      }) (reply_fits (setup_in past) from word counter x past h.0.was.took h.0.none) h.0.was);
    })
    (Leads_from (λ x past h. rests_of h.0.was) Leads_nothing)

-- the open send that stands at this place
pub open_known : (p : PeerId) (seen : List Seen) (first : Did) (older : List Seen) (m : MessageValue) → open_to p seen ≡ Here first ∷ older → first.deed ≡
    Acts (Post (Peer p) (Message m)) →
    open_send p seen ≡ Some (record { began = first.tick; posts = posts_of p seen; message = m })
open_known p seen first older m is deed = ap (λ place. sending_at place (posts_of p seen)) is ∙
    ap (λ d. sending_of (message_of d) first.tick (posts_of p seen)) deed

-- an ACK from p, whose send it ends
module _ {p : PeerId} {m : MessageValue} where
  acked_fits : (x : ℕ) (past : Past) → m.kind ≡ Ack → taken past.seen ≡ Some (record { from = Peer p; taken = Good (Message m) }) →
      has_other p m.number x past ≡ true → AckedFits past.seen p
  acked_fits x past k took e first older sent is deed =
      let known = open_known p past.seen first older sent is deed in
      let at : answers_other m.number (Some (record { began = first.tick; posts = posts_of p past.seen; message = sent })) ≡ true =
      subst (λ o. answers_other m.number o ≡ true) known e in
      let both = and_parts (ends_by_ack sent.kind) (sent.number == m.number) at in
      record {
        correction = λ c. record { message = m; took = took; kind = k; number_is = sym (eqb-true sent.number m.number both.1) };
        date = λ d. absurd (true≢false (sym (subst (λ i. ends_by_ack i ≡ true) d both.0)));
      }

  pub acknowledges_lead : m.kind ≡ Ack → Leads (Free (Says p m)) (acknowledges p m.number) (Free (Says p m))
  unfolding acknowledges
  acknowledges_lead k = Leads_either (has_other p m.number) (puts (Acked p)) nothing
      (Leads_puts (Acked p) (λ x past h. acked p (acked_fits x past k h.0.took h.1) h.0))
      (Leads_from (λ x past h. h.0) Leads_nothing)

no_election : (k : Kind) → is_kind_election k ≡ true → is_correction k ≡ true → ⊥
no_election Election e c = true≢false (sym c)
no_election _ e c = true≢false (sym e)

-- an answer to an ELECTION ends no correction and no date
pub election_acked : (p : PeerId) (number x : ℕ) (past : Past) → has_election p number x past ≡ true → AckedFits past.seen p
election_acked p number x past e first older sent is deed =
    let known = open_known p past.seen first older sent is deed in
    let at : answers_election number (Some (record { began = first.tick; posts = posts_of p past.seen; message = sent })) ≡ true =
    subst (λ o. answers_election number o ≡ true) known e in
    let both = and_parts (is_kind_election sent.kind) (sent.number == number) at in
    record {
      correction = λ c. absurd (no_election sent.kind both.0 c);
      date = λ d. absurd (true≢false (sym (subst (λ i. is_kind_election i ≡ true) d both.0)));
    }

-- a peer is heard, another than the node itself, by a port that isn't Starting
pub record Heard (p : PeerId) (t : Taken) (x : ℕ) (past : Past) : Type 0 where
  pub just : JustTook true (Peer p) t x past
  pub awake : role past.seen ≢ Starting
  pub peer : is_among p past.peers ≡ true
  pub other : p ≢ peer_of past.step.node

-- the same in a known role
abbrev pub HeardIn : PeerId → MessageValue → Role → ℕ → Past → Type 0
HeardIn p m r x past = Heard p (Good (Message m)) x past × (role past.seen ≡ r)

-- a port that quits, in its old role
record QuitIn (due : Option Said) (follow : List PeerId) (T : Option Received → Option Received → Type 0) (r : Role) (x : ℕ) (past : Past) : Type 0 where
  pub quitting : Quitting due follow T x past
  pub role_is : role past.seen ≡ r

rests_follow : {T : Option Received → Option Received → Type 0} {x : ℕ} {past : Past} (follow : List PeerId) (p : PeerId) →
    ((q : PeerId) → is_among q follow ≡ true → q ≡ p) → FreeIn follow T (Follow p) x past → Rests x past
rests_follow follow p k h = record {
  fits = h.free.fits;
  knows = h.free.knows;
  backs = h.free.backs;
  follows = λ q e. h.role_is ∙ ap Follow (sym (k q (sym (ap (is_among q) h.free.owed) ∙ e)));
  paid = h.free.paid;
}

module _ {p : PeerId} {m : MessageValue} where
  pub quits_now : (x : ℕ) (past : Past) → m.kind ≡ QuitKind → Heard p (Good (Message m)) x past → QuitFits past.seen p
  quits_now x past k h = record { message = m; took = h.just.took; past = h.just.rest; is = h.just.is; deed = h.just.deed; kind = k }

  pub quit_ack : (past : Past) → m.kind ≡ QuitKind → taken past.seen ≡ Some (record { from = Peer p; taken = Good (Message m) }) →
      AckFits (Peer p) past.seen m.number
  quit_ack past k took = ack_fits (Peer p) m past.seen took (subst (λ i. Answers i (Peer p) past.seen m.number) (sym k) tt)

  -- a QUIT is taken by a port that doesn't follow
  pub quits_lead : (r : Role) (follow : List PeerId) → ((q : PeerId) → r ≢ Follow q) → owes_after (Acts (Quit p)) r [] ≡ follow →
      ((q : PeerId) → is_among q follow ≡ true → q ≡ p) → m.kind ≡ QuitKind →
      Leads (HeardIn p m r) (quits p m.number) Rests
  unfolding quits
  quits_lead r follow other owed only k = Leads_then {Q = QuitIn (Some (record { from = p; message = m })) follow (Says p m) r} (puts (Quit p))
      (posts p Ack m.number followed_by reading role_at (follows_unless p))
      (Leads_puts (Quit p) (λ x past h. let f = h.0.just.free in record {
        quitting = quit_taken p (Some (record { from = p; message = m })) follow (quits_now x past k h.0) (ap said f.took)
            (ap (λ i. owes_after (Acts (Quit p)) i (owes past.seen)) h.1 ∙ ap (λ o. owes_after (Acts (Quit p)) r o) f.owed ∙ owed) f;
        role_is = h.1;
      }))
      (Leads_then {Q = QuitIn None follow (Says p m) r} (posts p Ack m.number) (reading role_at (follows_unless p))
      (Leads_posts p Ack m.number (λ x past h. record {
        quitting = quit_acked p m (bare Ack m.number past.name) refl refl (quit_ack past k h.quitting.took)
            h.quitting;
        role_is = h.role_is;
      }))
      (Leads_reading role_at (follows_unless p) (λ a. record {
        run = λ x past h.
            let same : a ≡ r = sym h.1 ∙ h.0.role_is in
            let row : follows_unless p a ≡ follow_row p = follows_unless_other p a (λ q e. other q (sym same ∙ e)) in
            subst (λ s. Rests x (grown x past (s x past))) (sym row) (rests_follow follow p only ((follow_leads p).run x past h.0.quitting));
      })))
