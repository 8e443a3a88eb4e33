-- What a port does with what it takes, and a whole step, keeps what is known of it.
use Rattle.std.proofs.Common.{sym, subst, inl, inr, ap, true≢false, eq-eqb, ◌∙◌, ◌≡◌, ℕ, not, Bool, true, false, List, [], ◌∷◌, refl, eqb-true, ◌==◌, ℤ}
use Rattle.std.proofs.Common.{if◌then◌else◌, Option, None, Some, is_some}
use Rattle.std.proofs.lemmas.Bool.{and_parts, not-true}
use Rattle.tsp_promises.proofs.leads.Known.{OpenIn, Open, Fresh, Early, Rests}
use Rattle.tsp_promises.specs.{AckFits.Answers, DeedFits.asks_name, DeedFits.is_answered_early, MeasureFits.SampleFits}
use Rattle.tsp_promises.proofs.leads.SlaveLeads.{quit_follower, idle_heard}
use Rattle.tsp_promises.proofs.leads.Changes.{Is, JustTook, take, open_of}
use Rattle.tsp_promises.proofs.leads.DateLeads.{date_upsets, date_request_upsets, date_acked_leads}
use Rattle.tsp_promises.proofs.{leads.Leaves.none_among, leads.Leaves.none-some, leads.Leaves.some_same, leads.Leaves.sample, leads.AlarmTable.due_alarms_lead}
use Rattle.tsp_promises.proofs.{leads.RoleLeads.slave_leads, leads.RoleLeads.candidate_leads, leads.RoleLeads.master_leads}
use Rattle.tsp_promises.proofs.{leads.CorrectionLeads.due_sends_lead}
use Rattle.tsp_promises.proofs.leads.Elsewheres.{Upsets, upsets_of, upsets_from, upsets_either, upsetting_lead}
use Rattle.tsp_promises.proofs.leads.TakenLeads.{Heard, HeardIn, Unanswered, rests_of, took_awake, names_master_leads, says_master_leads, traces_leads}
use Rattle.tsp_promises.proofs.leads.TakenLeads.{tests_leads}
use Rattle.tsp_promises.proofs.leads.TakenLeads.{replies_lead, quits_lead}
use Rattle.tsp_rules.specs.Values.{Took, Message, Stamp, Taken, Good, Bad, Kind, Date, DateAck, DateReq, LoopKind, Msite, MsiteReq, SetDate, SetDateReq, Test}
use Rattle.tsp_rules.specs.Values.{TraceOff, TraceOn, PeerId, Place, Peer, Stranger, Role, Starting, Loose, Follow, Candidate, Master, Request, Reply}
use Rattle.tsp_rules.specs.Answers.{due_alarms, says_in, peer_says, replies_in, peer_replies, from_peer, handles_kind, is_left, handles, takes, Given, Turn}
use Rattle.tsp_rules.specs.Answers.{Got, input_row, answers}
use Rattle.tsp_rules.specs.{CandidateRows.candidate_takes, DateRows.date_request_of, DateRows.date_acked, MasterRows.master_takes}
use Rattle.tsp_rules.{proofs.GuardFacts.awake_is, specs.SendRows.due_sends, proofs.Asides.now}
use Rattle.tsp_rules.specs.Guards.{role_at, is_own, is_heard, is_starting_role, target_at}
use Rattle.tsp_rules.specs.{SlaveRows.slave_takes, RoundRows.request_at, RoundRows.sample_of, RoundRows.samples_request, RoundRows.samples}
use Rattle.tsp_base.specs.Words.{Seen, Past, Leads, MessageValue, is_among, role, Row, grown, nothing, puts, ◌followed_by◌, is_date_request, sets_date}
use Rattle.tsp_base.specs.Words.{ReplyValue, plain, target, OpenRequest, exchange, request_at_place, word_asked, target_there, reading, sample_diff, sample_err}
use Rattle.tsp_base.specs.Words.{Received}
use Rattle.tsp_base.proofs.LeadsLemmas.{Leads_then, Leads_reading, Leads_nothing, Leads_from, Leads_puts}

-- a reply to an open exchange keeps what is known of a port

-- the place of an open exchange, from what it says
pub record Placed (p : PeerId) (counter : ℕ) (seen : List Seen) (q : OpenRequest) : Type 0 where
  pub s : Seen
  pub older : List Seen
  pub is : exchange p counter seen ≡ s ∷ older
  pub word_is : q.word ≡ word_asked (s ∷ older)
  pub target_is : q.target ≡ target_there (s ∷ older)

placed_cases : (p : PeerId) (counter : ℕ) (seen : List Seen) (q : OpenRequest) (place : List Seen) → exchange p counter seen ≡ place → request_at_place place ≡
    Some q → Placed p counter seen q
placed_cases p counter seen q [] is e = none-some q e
placed_cases p counter seen q (s ∷ older) is e =
    let same : record { word = word_asked (s ∷ older); target = target_there (s ∷ older) } ≡ q = some_same _ q e in
    record { s = s; older = older; is = is; word_is = sym (ap (λ (r : OpenRequest). r.word) same); target_is = sym (ap (λ (r : OpenRequest). r.target) same) }

module _ {p : PeerId} {r : ReplyValue} where
  sample_fits : (x : ℕ) (past : Past) (q : OpenRequest) (d : ℤ) → Heard p (Good (Stamp (Reply r))) x past → request_at p r.counter x past ≡ Some q →
      (q.word == r.word) ≡ true → target_at x past ≡ d →
      SampleFits (now x past (sample_of p r q.target d)) past.seen p r.counter (sample_diff q.target r.reading d) (sample_err q.target d) r.ticket
  sample_fits x past q d h found same now_is =
      let free = h.just.free in
      let placed = placed_cases p r.counter past.seen q (exchange p r.counter past.seen) refl found in
      let asked = free.knows.round.exchanges p r.counter placed.s placed.older placed.is in
      let going = free.knows.round.closes refl asked.at asked.goes in
      let there : q.target ≡ target (plain placed.older) asked.post.tick = placed.target_is ∙ ap (λ z. target_there (z ∷ placed.older)) asked.is in
      record {
        start = going.start;
        idle = going.idle;
        start_is = going.start_is;
        undisturbed = record { corrects = going.corrects; lives = going.life };
        going = ap (λ o. is_some o) asked.goes;
        post = asked.post;
        older = placed.older;
        exchange_is = placed.is ∙ ap (λ z. z ∷ placed.older) asked.is;
        reply = r;
        took = free.took;
        word_is = sym (eqb-true q.word r.word same) ∙ placed.word_is ∙ asked.word_is;
        counter_is = refl;
        number_is = refl;
        diff_is = ap (λ a. sample_diff a r.reading d) there ∙ ap (λ t. sample_diff (target (plain placed.older) asked.post.tick) r.reading t) (sym now_is);
        err_is = ap (λ a. sample_err a d) there ∙ ap (λ t. sample_err (target (plain placed.older) asked.post.tick) t) (sym now_is);
      }

  samples_request_leads : (o : Option OpenRequest) → Leads (λ x past. Heard p (Good (Stamp (Reply r))) x past × (request_at p r.counter x past ≡ o))
      (samples_request p r o) Rests
  unfolding samples_request
  samples_request_leads None = idle_heard (λ x past h. h.0)
  samples_request_leads (Some q) = by_case (q.word == r.word) refl where
    by_case : (b : Bool) → (q.word == r.word) ≡ b → Leads (λ x past. Heard p (Good (Stamp (Reply r))) x past × (request_at p r.counter x past ≡ Some q))
        (if b then reading target_at (λ d. puts (sample_of p r q.target d)) else nothing) Rests
    by_case true same = Leads_reading target_at (λ d. puts (sample_of p r q.target d)) (λ d. Leads_puts (sample_of p r q.target d) (λ x past h.
        rests_of (sample p r.counter (sample_diff q.target r.reading d) (sample_err q.target d) r.ticket (sample_fits x past q d h.0.0 h.0.1 same h.1)
        h.0.0.just.free)))
    by_case false same = idle_heard (λ x past h. h.0)

  pub samples_lead : Leads (Heard p (Good (Stamp (Reply r)))) (samples p r) Rests
  unfolding samples
  samples_lead = Leads_reading (request_at p r.counter) (samples_request p r) samples_request_leads

module _ {p : PeerId} {m : MessageValue} where
  pub says_leads : (r : Role) → Leads (HeardIn p m r) (says_in p m r) Rests
  unfolding says_in slave_takes candidate_takes master_takes
  says_leads Starting = idle_heard (λ x past h. h.0)
  says_leads Loose = slave_leads Loose (λ e. let bad : ⊥ = cc in absurd bad)
      (quits_lead Loose [] (λ q i. let bad : ⊥ = cc in absurd bad) refl (λ q i. none_among q refl i)) m.kind refl
  says_leads (Follow q) = slave_leads (Follow q) (λ e. let bad : ⊥ = cc in absurd bad) (quit_follower q) m.kind refl
  says_leads Candidate = candidate_leads m.kind refl
  says_leads Master = master_leads m.kind refl

  pub peer_says_leads : Leads (Heard p (Good (Message m))) (peer_says m p) Rests
  unfolding peer_says
  peer_says_leads = Leads_reading role_at (says_in p m) says_leads

module _ {p : PeerId} {r : ReplyValue} where
  pub replies_in_leads : (a : Role) → Leads (Heard p (Good (Stamp (Reply r)))) (replies_in p r a) Rests
  unfolding replies_in
  replies_in_leads Master = samples_lead
  replies_in_leads _ = Leads_from (λ x past h. rests_of h.just.free) Leads_nothing

  pub peer_replies_lead : Leads (Heard p (Good (Stamp (Reply r)))) (peer_replies r p) Rests
  unfolding peer_replies
  peer_replies_lead = Leads_reading role_at (replies_in p r) (λ a. Leads_from (λ x past h. h.0) (replies_in_leads a))

-- a port that has taken a datagram which isn't its own
pub record Foreign (from : Place) (t : Taken) (x : ℕ) (past : Past) : Type 0 where
  pub just : JustTook false from t x past
  pub other : is_own from x past ≡ false

-- nothing is done with it
pub passes_over : {from : Place} {t : Taken} {P : ℕ → Past → Type 0} → ((x : ℕ) (past : Past) → P x past → JustTook false from t x past) → Leads P nothing Rests
passes_over k = Leads_from (λ x past h. rests_of (k x past h).free) Leads_nothing

pub hears : (p : PeerId) (t : Taken) (x : ℕ) (past : Past) → Foreign (Peer p) t x past → is_heard p x past ≡ true → Heard p t x past
hears p t x past h e =
    let both = and_parts (is_among p past.peers) (not (is_starting_role (role past.seen))) e in
    let awake = awake_is (role past.seen) (not-true (is_starting_role (role past.seen)) both.1) in
    record {
      just = took_awake awake h.just;
      awake = awake;
      peer = both.0;
      other = λ same. true≢false (sym (eq-eqb p.0 past.own.0 (ap (λ (q : PeerId). q.0) same ∙ sym h.just.free.own)) ∙ h.other);
    }

-- what only a peer may say
pub from_peer_upsets : {dates : Bool} (from : Place) (t : Taken) (row : PeerId → Row) → ((p : PeerId) → from ≡ Peer p → Upsets dates (Heard p t) (row p)) →
    Upsets dates (Foreign from t) (from_peer from row)
unfolding from_peer
from_peer_upsets (Peer p) t row k = upsets_either (is_heard p) (row p) nothing (upsets_from (λ x past h. hears p t x past h.0 h.1) (k p refl))
    (upsets_of (passes_over (λ x past h. h.0.just)))
from_peer_upsets Stranger t row k = upsets_of (passes_over (λ x past h. h.just))

answers_any : (from : Place) (m : MessageValue) (k : Kind) → m.kind ≡ k → ((seen : List Seen) → Answers k from seen m.number) → (seen : List Seen) →
    Answers m.kind from seen m.number
answers_any from m k e a seen = subst (λ i. Answers i from seen m.number) (sym e) (a seen)

module _ {from : Place} {m : MessageValue} where
  pub freely : {dates : Bool} {row : Row} → Leads (Unanswered (Early (Is from (Good (Message m))))) row Rests →
      Upsets dates (Foreign from (Good (Message m))) row
  freely k = upsets_of (Leads_from (λ x past h. record { was = h.just.free; none = h.just.unanswered }) k)

  -- by the kind of the message
  pub handles_kind_upsets : (charge : Bool) (k : Kind) → m.kind ≡ k → Upsets (sets_date m.kind) (Foreign from (Good (Message m))) (handles_kind charge from m k)
  unfolding handles_kind
  handles_kind_upsets charge Msite e = freely (names_master_leads m (ap is_answered_early e) (answers_any from m Msite e (λ seen. tt)) (ap asks_name e))
  handles_kind_upsets charge MsiteReq e = freely (says_master_leads m (ap asks_name e) (answers_any from m MsiteReq e (λ seen. tt)))
  handles_kind_upsets charge TraceOn e = freely (traces_leads m (ap is_answered_early e) (answers_any from m TraceOn e (λ seen. tt)) true (ap asks_name e))
  handles_kind_upsets charge TraceOff e = freely (traces_leads m (ap is_answered_early e) (answers_any from m TraceOff e (λ seen. tt)) false (ap asks_name e))
  handles_kind_upsets charge Test e = freely (tests_leads m (ap asks_name e) (answers_any from m Test e (λ seen. tt)))
  handles_kind_upsets charge Date e = upsets_from (λ x past h. h.just) (date_upsets charge (inl e))
  handles_kind_upsets charge SetDate e = upsets_from (λ x past h. h.just) (date_upsets charge (inr e))
  handles_kind_upsets charge DateReq e = from_peer_upsets from (Good (Message m)) (date_request_of charge m)
      (λ p i. date_request_upsets charge (ap is_date_request e))
  handles_kind_upsets charge SetDateReq e = from_peer_upsets from (Good (Message m)) (date_request_of charge m)
      (λ p i. date_request_upsets charge (ap is_date_request e))
  handles_kind_upsets charge DateAck e = from_peer_upsets from (Good (Message m)) (date_acked m) (λ p i. upsets_of (date_acked_leads e))
  handles_kind_upsets charge LoopKind e = upsets_of (passes_over (λ x past h. h.just))
  handles_kind_upsets charge _ e = from_peer_upsets from (Good (Message m)) (peer_says m) (λ p i. upsets_of peer_says_leads)

-- whether what was taken may set the date
abbrev pub dates_by : Taken → Bool
dates_by (Good (Message m)) = sets_date m.kind
dates_by _ = false

-- what is done with what was taken
pub handles_upsets : (steer charge : Bool) (from : Place) (t : Taken) → Upsets (dates_by t) (Foreign from t) (handles steer charge from t)
unfolding handles
handles_upsets steer charge from (Bad fault) = upsets_of (passes_over (λ x past h. h.just))
handles_upsets steer charge from (Good (Message m)) = upsets_either (is_left steer m.kind) nothing (handles_kind charge from m m.kind)
    (upsets_of (passes_over (λ x past h. h.0.just))) (upsets_from (λ x past h. h.0) (handles_kind_upsets charge m.kind refl))
handles_upsets steer charge from (Good (Stamp (Request word counter))) = upsets_of
    (Leads_from (λ x past h. record { was = h.just.free; none = h.just.unanswered }) (replies_lead from word counter))
handles_upsets steer charge from (Good (Stamp (Reply r))) = from_peer_upsets from (Good (Stamp (Reply r))) (peer_replies r) (λ p i. upsets_of peer_replies_lead)

-- a datagram is taken
pub takes_upsets : (steer charge : Bool) (from : Place) (t : Taken) → Upsets (dates_by t) Open (takes steer charge from t)
unfolding takes puts ◌followed_by◌
takes_upsets steer charge from t =
    let k = upsets_either (is_own from) nothing (handles steer charge from t)
    (upsets_of (passes_over (λ x past h. h.0))) (upsets_from (λ x past h. record { just = h.0; other = h.1 }) (handles_upsets steer charge from t)) in
    record { run = λ x past h. k.run x (grown x past (Took from t ∷ [])) (take from t h) }

pub open_rests : {T : Option Received → Option Received → Type 0} (x : ℕ) (past : Past) → OpenIn false T x past → Rests x past
open_rests x past h = record { fits = h.fits; knows = h.knows; backs = h.backs; follows = λ p e. none_among p h.owed e; paid = h.paid }

pub input_leads : (g : Given) → Leads Open (input_row g) Rests
unfolding input_row
input_leads Turn = Leads_from open_rests Leads_nothing
input_leads (Got from t) = upsetting_lead (takes true true from t) (takes_upsets true true from t)

-- what a port answers keeps what is known of it
pub answers_lead : (g : Given) → Leads Fresh (answers g) Rests
unfolding answers
answers_lead g = Leads_then due_sends (due_alarms followed_by input_row g) due_sends_lead
    (Leads_from (λ x past h. open_of h) (Leads_then due_alarms (input_row g) due_alarms_lead (input_leads g)))
