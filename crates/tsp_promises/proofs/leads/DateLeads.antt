-- The rows of the network's date keep what is known of a port.
use Rattle.std.proofs.Common.{sym, subst, inl, inr, ap, arith, true≢false, eqb-true, eq-eqb, ltb-false, ltb-true, ◌∙◌, ◌≡◌, ◌⊎◌, ◌≤◌, ◌<◌, ℕ, ◌+◌, ◌==◌, ◌&&◌}
use Rattle.std.proofs.Common.{nat_lt, ℤ, ◌-ℤ◌, Bool, true, false, if◌then◌else◌, List, [], ◌∷◌, Option, None, Some, refl}
use Rattle.std.proofs.lemmas.Bool.{and_parts}
use Rattle.tsp_rules.specs.Values.{Post, Correct, Acked, Leave, Message, Good, Kind, Ack, Date, DateAck, MasterUp, Msite, SetDate, SetDateReq, PeerId, Place}
use Rattle.tsp_rules.specs.Values.{Peer, Stranger, Role, Follow, Master, DATEHOLD, GAP, REUSE}
use Rattle.tsp_rules.{specs.ClockRows.sets, specs.Guards.is_clock_value, specs.Guards.role_at, specs.Guards.table_at, proofs.Asides.now}
use Rattle.tsp_rules.specs.DateRows.{may_pass_on, passes_on, all_settled, may_date, leaves, leaves_all, new_date, sets_date_where, date_in, date_of, is_last}
use Rattle.tsp_rules.specs.DateRows.{is_dated, sets_in_charge, date_request_in, date_request_of, answers_date, has_date, date_acked_in, date_acked}
use Rattle.tsp_rules.{specs.SendRows.begins_timed, specs.SendRows.next_number, specs.SendRows.is_free, proofs.GuardFacts.past_is}
use Rattle.tsp_base.specs.Words.{Did, Seen, Here, Past, plain, is_past, Leads, MessageValue, correct_tick, target, Received, role, said, taken, grown, nothing}
use Rattle.tsp_base.specs.Words.{puts, ◌followed_by◌, for_each, bare, timed, posts, posts_back, posts_time, posts_to_others, Dating, dating_of, is_correction}
use Rattle.tsp_base.specs.Words.{is_date_request, is_set_date_request, last_asked, last_date, posts_of, sets_date, Setup, time_in}
use Rattle.tsp_base.proofs.LeadsLemmas.{Leads_then, Leads_either, Leads_reading, Leads_nothing, Leads_puts, Leads_each, Leads_from, Leads_to}
use Rattle.tsp_promises.specs.{AckFits.AckedFits, AckFits.Answers, StepFacts.is_answered, DeedFits.PostFits, DeedFits.asks_name}
use Rattle.tsp_promises.proofs.{leads.CommonLeads.own_number, shared.StrangerFacts.own_named, leads.Changes.Is, leads.Changes.JustTook}
use Rattle.tsp_promises.specs.{CorrectFits.ByDate, PortFits.setup_in, DateFits.DateAckFits}
use Rattle.tsp_promises.proofs.{leads.SlaveLeads.idle_heard, leads.SlaveLeads.gap_of, shared.Printed.date_sets, shared.Printed.flag_of}
use Rattle.tsp_promises.proofs.{shared.Printed.sets_prints}
use Rattle.tsp_promises.proofs.{leads.Known.Free, leads.Known.Rests, leads.Known.RestsIn, leads.Known.Stirred, leads.Leaves.leave, leads.Leaves.acked}
use Rattle.tsp_promises.proofs.{leads.Leaves.correct_stirring}
use Rattle.tsp_promises.proofs.leads.PostLeaves.{post_message, post_back, Leads_posts, Leads_posts_back, Leads_posts_time, Leads_others}
use Rattle.tsp_promises.proofs.leads.TakenLeads.{Heard, HeardIn, Unanswered, rests_of, wake_role, took_awake, ack_fits, open_known}
use Rattle.tsp_promises.proofs.leads.Elsewheres.{Upsets, upsets_of, upsets_from, upsets_either, upsets_reading}

-- a client's date
abbrev pub IsClient : Kind → Type 0
IsClient k = (k ≡ Date) ⊎ (k ≡ SetDate)

client_answers : (k : Kind) → IsClient k → (from : Place) (seen : List Seen) (number : ℕ) → Answers k from seen number
client_answers k (inl e) from seen number = subst (λ i. Answers i from seen number) (sym e) tt
client_answers k (inr e) from seen number = subst (λ i. Answers i from seen number) (sym e) tt

client_sets : (k : Kind) → IsClient k → sets_date k ≡ true
client_sets k (inl e) = ap sets_date e
client_sets k (inr e) = ap sets_date e

client_request : (k : Kind) → IsClient k → is_date_request k ≡ false
client_request k (inl e) = ap is_date_request e
client_request k (inr e) = ap is_date_request e

request_sets : (k : Kind) → is_date_request k ≡ true → sets_date k ≡ true
request_sets Date e = refl
request_sets SetDate e = refl
request_sets _ e = e

-- whoever sets a date doesn't ask for the master
date_other : (k : Kind) → sets_date k ≡ true → asks_name k ≡ false
date_other Msite e = absurd (true≢false (sym e))
date_other _ e = refl

ack_to : (from : Place) (m : MessageValue) (x : ℕ) (past : Past) → IsClient m.kind → taken past.seen ≡ Some (record { from = from; taken = Good (Message m) }) →
    is_answered past.seen ≡ false →
    PostFits (setup_in past) from (Message (bare Ack m.number past.name)) (now x past (Post from (Message (bare Ack m.number past.name)))) past.seen
ack_to (Peer p) m x past client took none = ack_fits (Peer p) m past.seen took (client_answers m.kind client (Peer p) past.seen m.number)
ack_to Stranger m x past client took none = (
  ack_fits Stranger m past.seen took (client_answers m.kind client Stranger past.seen m.number),
  (none, own_named (setup_in past) Stranger m (bare Ack m.number past.name) past.seen took refl (date_other m.kind (client_sets m.kind client))),
)

-- a follower passes a client's date on
record Passing (from : Place) (m : MessageValue) (x : ℕ) (past : Past) : Type 0 where
  pub free : Free (Is from (Good (Message m))) x past
  pub seldom : is_past (last_asked past.seen) REUSE x ≡ true

module _ {from : Place} {m : MessageValue} where
  answered : (x : ℕ) (past : Past) → IsClient m.kind → is_answered past.seen ≡ false → Passing from m x past →
      Passing from m x (grown x past (Post from (Message (bare Ack m.number past.name)) ∷ []))
  answered x past client none h = record {
    free = post_back from (bare Ack m.number past.name) refl (ack_to from m x past client h.free.took none) h.free;
    seldom = h.seldom;
  }

  pub passes_on_leads : (q : PeerId) (time : ℤ) → IsClient m.kind → Leads (Unanswered (Free (Is from (Good (Message m))))) (passes_on from q m.number time)
      Rests
  unfolding passes_on begins_timed
  passes_on_leads q time client = Leads_either (may_pass_on q) (posts_back from Ack m.number followed_by begins_timed SetDateReq q time) nothing
      (Leads_then {Q = Passing from m} (posts_back from Ack m.number) (begins_timed SetDateReq q time)
      (Leads_posts_back from Ack m.number (λ x past h. answered x past client h.0.none (record {
        free = h.0.was;
        seldom = (and_parts (is_past (last_asked past.seen) REUSE x) (is_free q x past) h.1).0;
      })))
      (Leads_reading next_number (λ n. posts_time q SetDateReq n time) (λ n. Leads_posts_time q SetDateReq n time (λ x past h.
      let d = timed SetDateReq n time past.name in
      rests_of (post_message q d refl (record {
        numbered = own_number x past q (now x past (Post (Peer q) (Message d))) d h.0.free h.1;
        begins = λ acts. record { rested = h.0.free.rested refl; seldom = λ t e. past_is (last_asked past.seen) REUSE x h.0.seldom t e };
      }) h.0.free)))))
      (Leads_from (λ x past h. rests_of h.0.was) Leads_nothing)

-- a master that has just taken a date that it may set
pub record Dating_now (from : Place) (m : MessageValue) (x : ℕ) (past : Past) : Type 0 where
  pub just : JustTook true from (Good (Message m)) x past
  pub leads : role past.seen ≡ Master
  pub date : sets_date m.kind ≡ true
  pub again : (p : PeerId) (d : Dating) → from ≡ Peer p → is_date_request m.kind ≡ true → last_date p past.seen ≡ Some d → d.number ≡ m.number →
      d.at + DATEHOLD ≤ x

-- the same right after its clock was set
record Dated (from : Place) (m : MessageValue) (x : ℕ) (past : Past) : Type 0 where
  pub stirred : Stirred (Is from (Good (Message m))) x past
  pub answers : PostFits (setup_in past) from (Message (bare DateAck m.number past.name)) (now x past (Post from (Message (bare DateAck m.number past.name))))
      past.seen

-- the date of a peer is its last one once it is set
dated_is : (p : PeerId) (m : MessageValue) (x : ℕ) (was : Option Dating) (o : Option Received) → o ≡ Some (record { from = Peer p; taken = Good (Message m) }) →
    is_date_request m.kind ≡ true → dating_of p x (said o) was ≡ Some (record { at = x; number = m.number })
dated_is p m x was o took request =
    let same : (p.0 == p.0) ≡ true = eq-eqb p.0 p.0 refl in
    ap (λ r. dating_of p x (said r) was) took ∙ ap (λ b. if b && is_date_request m.kind then Some (record { at = x; number = m.number }) else was) same ∙
    ap (λ b. if b then Some (record { at = x; number = m.number }) else was) request

-- who asked for a date: a client, from wherever, or a peer that passes it on
pub data WhoDates (from : Place) (m : MessageValue) : Type 0 where
  ByClient : IsClient m.kind → WhoDates from m
  ByPeer : (p : PeerId) → from ≡ Peer p → is_date_request m.kind ≡ true → WhoDates from m

date_ack : (from : Place) (m : MessageValue) (here : Did) (x : ℕ) (after : Did) (seen : List Seen) → here.tick ≡ x → WhoDates from m →
    taken (Here after ∷ seen) ≡ Some (record { from = from; taken = Good (Message m) }) →
    ((p : PeerId) → from ≡ Peer p → is_date_request m.kind ≡ true → last_date p (Here after ∷ seen) ≡ Some (record { at = x; number = m.number })) →
    DateAckFits from here (Here after ∷ seen) m.number
date_ack (Peer p) m here x after seen tick (ByClient client) took last = inl (record { message = m; took = took; kind = client; number_is = refl })
date_ack (Peer p) m here x after seen tick (ByPeer q is request) took last = inr (record {
  message = m;
  took = took;
  kind = request;
  number_is = refl;
  last = record { at = x; number = m.number };
  last_is = last p refl request;
  same = refl;
  fresh = omega (arith, tick);
})
date_ack Stranger m here x after seen tick (ByClient client) took last = record { message = m; took = took; kind = client; number_is = refl }
date_ack Stranger m here x after seen tick (ByPeer q is request) took last = let bad : ⊥ = cc in absurd bad

ack_post : (setup : Setup) (from : Place) (m : MessageValue) (name : List ℕ) (here : Did) (seen : List Seen) → DateAckFits from here seen m.number →
    is_answered seen ≡ false → name ≡ setup.name → taken seen ≡ Some (record { from = from; taken = Good (Message m) }) → sets_date m.kind ≡ true →
    PostFits setup from (Message (bare DateAck m.number name)) here seen
ack_post setup (Peer p) m name here seen f none is took dates = f
ack_post setup Stranger m name here seen f none is took dates = (
  f,
  (
    none,
    own_named setup Stranger m (bare DateAck m.number name) seen took is
        (date_other m.kind dates),
  ),
)

module _ {from : Place} {m : MessageValue} where
  corrected : (x : ℕ) (past : Past) → WhoDates from m → is_past (correct_tick (plain past.seen)) GAP x ≡ true → Dating_now from m x past →
      Dated from m x (grown x past (Correct (time_in m.body -ℤ target (plain past.seen) x) true (time_in m.body) ∷ []))
  corrected x past who gap h =
      let a = Correct (time_in m.body -ℤ target (plain past.seen) x) true (time_in m.body) in
      let free = h.just.free in
      let later = grown x past (a ∷ []) in
      let here = now x later (Post from (Message (bare DateAck m.number past.name))) in
      record {
        stirred = correct_stirring (time_in m.body -ℤ target (plain past.seen) x) true (time_in m.body) (record {
          gap = gap_of x past gap (free.rested refl);
          rested = free.rested refl;
          why = ByDate (record {
            from = from;
            message = m;
            took = h.just.took;
            past = h.just.rest;
            is = h.just.is;
            deed = h.just.deed;
            kind = h.date;
            leads = h.leads;
            amount_is = refl;
            again = h.again;
          });
          flag = flag_of from m (time_in m.body -ℤ target (plain past.seen) x) h.just.took h.just.rest past.seen true h.just.is h.just.deed
              (date_sets m.kind h.date);
          prints = sets_prints x past (time_in m.body);
        }) free;
        answers = ack_post (setup_in past) from m past.name here later.seen (date_ack from m here x (now x past a) past.seen refl who free.took (λ p is request.
            dated_is p m x (last_date p past.seen) (taken past.seen) (free.took ∙ ap (λ f. Some (record { from = f; taken = Good (Message m) })) is) request))
            h.just.unanswered refl free.took h.date;
      }

  -- after the clock is set
  rest_of_date : Leads (Dated from m) (posts_back from DateAck m.number followed_by (leaves_all followed_by posts_to_others MasterUp 0)) (RestsIn true)
  unfolding leaves_all leaves
  rest_of_date = Leads_then {Q = Stirred (Is from (Good (Message m)))} (posts_back from DateAck m.number) (leaves_all followed_by posts_to_others MasterUp 0)
      (Leads_posts_back from DateAck m.number (λ x past h. post_back from (bare DateAck m.number past.name) refl h.answers h.stirred))
      (Leads_then {Q = Stirred (Is from (Good (Message m)))} leaves_all (posts_to_others MasterUp 0)
      (Leads_reading table_at (for_each leaves) (λ ps. Leads_from (λ x past h. h.0) (Leads_each leaves ps (λ p. Leads_puts (Leave p) (λ x past h. leave p h)))))
      (Leads_to (λ x past h. rests_of h) (Leads_others MasterUp 0 (λ x past p h. post_message p (bare MasterUp 0 past.name) refl tt h))))

  -- a master sets the date
  new_date_upsets : WhoDates from m → Upsets (sets_date m.kind) (λ x past. Dating_now from m x past × (may_date (time_in m.body) x past ≡ true))
      (new_date from m.number (time_in m.body))
  unfolding new_date sets ◌followed_by◌
  new_date_upsets who = record {
    run = λ x past h.
        let time = time_in m.body in
        let gap = and_parts (is_past (correct_tick (plain past.seen)) GAP x) (is_clock_value time && all_settled x past) h.1 in
        inr (
          h.0.date,
          refl,
          (rest_of_date.run x (grown x past (Correct (time -ℤ target (plain past.seen) x) true time ∷ []))
              (corrected x past who gap.0 h.0)),
        );
  }

  pub sets_date_upsets : WhoDates from m → Upsets (sets_date m.kind) (Dating_now from m) (sets_date_where from m.number (time_in m.body))
  unfolding sets_date_where
  sets_date_upsets who = upsets_either (may_date (time_in m.body)) (new_date from m.number (time_in m.body)) nothing (new_date_upsets who)
      (upsets_of (Leads_from (λ x past h. rests_of h.0.just.free) Leads_nothing))

  pub date_in_upsets : (r : Role) → IsClient m.kind → Upsets (sets_date m.kind) (λ x past. JustTook false from (Good (Message m)) x past ×
      (role_at x past ≡ r)) (date_in from m.number (time_in m.body) r)
  unfolding date_in
  date_in_upsets (Follow q) client = upsets_of (Leads_from (λ x past h. record {
    was = wake_role (λ e. let r = h.1 in let bad : ⊥ = cc in absurd bad) h.0.free;
    none = h.0.unanswered;
  }) (passes_on_leads q (time_in m.body) client))
  date_in_upsets Master client = upsets_from (λ x past h. record {
    just = took_awake (λ e. let r = h.1 in let bad : ⊥ = cc in absurd bad) h.0;
    leads = h.1;
    date = client_sets m.kind client;
    again = λ p d is request. absurd (true≢false (sym request ∙ client_request m.kind client));
  }) (sets_date_upsets (ByClient client))
  date_in_upsets _ client = upsets_of (Leads_from (λ x past h. rests_of h.0.free) Leads_nothing)

  -- a client sets the date, on a port that is in charge or isn't
  pub date_upsets : (charge : Bool) → IsClient m.kind → Upsets (sets_date m.kind) (JustTook false from (Good (Message m))) (date_of charge from m)
  unfolding date_of
  date_upsets true client = upsets_reading role_at (date_in from m.number (time_in m.body)) (λ r. date_in_upsets r client)
  date_upsets false client = upsets_of (Leads_from (λ x past h. rests_of h.free) Leads_nothing)

-- a date that isn't the last one of its peer, or was set long ago
is_last_not : (number x : ℕ) (o : Option Dating) (d : Dating) → is_last number x o ≡ false → o ≡ Some d → d.number ≡ number → d.at + DATEHOLD ≤ x
is_last_not number x o d e is same =
    let found : ((d.number == number) && nat_lt x (d.at + DATEHOLD)) ≡ false = subst (λ z. is_last number x z ≡ false) is e in
    let equal : (d.number == number) ≡ true = eq-eqb d.number number same in
    ltb-false x (d.at + DATEHOLD) (subst (λ b. (b && nat_lt x (d.at + DATEHOLD)) ≡ false) equal found)

-- the last date of p
record LastDate (number x : ℕ) (o : Option Dating) : Type 0 where
  pub last : Dating
  pub is : o ≡ Some last
  pub same : last.number ≡ number
  pub fresh : x < last.at + DATEHOLD

is_last_is : (number x : ℕ) (o : Option Dating) → is_last number x o ≡ true → LastDate number x o
is_last_is number x None e = absurd (true≢false (sym e))
is_last_is number x (Some d) e =
    let both = and_parts (d.number == number) (nat_lt x (d.at + DATEHOLD)) e in
    record { last = d; is = refl; same = eqb-true d.number number both.0; fresh = ltb-true x (d.at + DATEHOLD) both.1 }

module _ {p : PeerId} {m : MessageValue} where
  dates_again : is_date_request m.kind ≡ true → Leads (λ x past. HeardIn p m Master x past × (is_dated p m.number x past ≡ true)) (posts p DateAck m.number)
      Rests
  dates_again request = Leads_posts p DateAck m.number (λ x past h.
      let l = is_last_is m.number x (last_date p past.seen) h.1 in
      rests_of (post_message p (bare DateAck m.number past.name) refl (inr (record {
        message = m;
        took = h.0.0.just.free.took;
        kind = request;
        number_is = refl;
        last = l.last;
        last_is = l.is;
        same = l.same;
        fresh = l.fresh;
      })) h.0.0.just.free))

  pub sets_in_charge_upsets : (charge : Bool) → is_date_request m.kind ≡ true → Upsets (sets_date m.kind) (λ x past. HeardIn p m Master x past ×
      (is_dated p m.number x past ≡ false)) (sets_in_charge charge p m)
  unfolding sets_in_charge
  sets_in_charge_upsets true request = upsets_from (λ x past h. record {
    just = h.0.0.just;
    leads = h.0.1;
    date = request_sets m.kind request;
    again = λ q d is asks last same.
        let peer : p ≡ q = cc in
        is_last_not m.number x (last_date p past.seen) d h.1 (ap (λ r. last_date r past.seen) peer ∙ last) same;
  }) (sets_date_upsets (ByPeer p refl request))
  sets_in_charge_upsets false request = upsets_of (Leads_from (λ x past h. rests_of h.0.0.just.free) Leads_nothing)

  pub date_request_in_upsets : (charge : Bool) (r : Role) → is_date_request m.kind ≡ true →
      Upsets (sets_date m.kind) (λ x past. Heard p (Good (Message m)) x past × (role_at x past ≡ r)) (date_request_in charge m p r)
  unfolding date_request_in
  date_request_in_upsets charge Master request = upsets_either (is_dated p m.number) (posts p DateAck m.number) (sets_in_charge charge p m)
      (upsets_of (dates_again request)) (sets_in_charge_upsets charge request)
  date_request_in_upsets charge _ request = upsets_of (idle_heard (λ x past h. h.0))

  -- a peer passes a date on
  pub date_request_upsets : (charge : Bool) → is_date_request m.kind ≡ true → Upsets (sets_date m.kind) (Heard p (Good (Message m)))
      (date_request_of charge m p)
  unfolding date_request_of
  date_request_upsets charge request = upsets_reading role_at (date_request_in charge m p) (λ r. date_request_in_upsets charge r request)

  -- a date that is passed on is ended by its DATEACK
  date_ended : (x : ℕ) (past : Past) → m.kind ≡ DateAck → taken past.seen ≡ Some (record { from = Peer p; taken = Good (Message m) }) →
      has_date p m.number x past ≡ true → AckedFits past.seen p
  date_ended x past k took e first older sent is deed =
      let known = open_known p past.seen first older sent is deed in
      let at : answers_date m.number (Some (record { began = first.tick; posts = posts_of p past.seen; message = sent })) ≡ true =
      subst (λ o. answers_date m.number o ≡ true) known e in
      let both = and_parts (is_set_date_request sent.kind) (sent.number == m.number) at in
      record {
        correction = λ c. absurd (no_correction sent.kind both.0 c);
        date = λ d. record { message = m; took = took; kind = k; number_is = sym (eqb-true sent.number m.number both.1) };
      }
    where
      no_correction : (k : Kind) → is_set_date_request k ≡ true → is_correction k ≡ true → ⊥
      no_correction SetDateReq e c = true≢false (sym c)
      no_correction _ e c = true≢false (sym e)

  pub date_acked_in_leads : (r : Role) → m.kind ≡ DateAck → Leads (λ x past. Heard p (Good (Message m)) x past × (role_at x past ≡ r)) (date_acked_in m p r)
      Rests
  unfolding date_acked_in
  date_acked_in_leads (Follow q) k = Leads_either (has_date p m.number) (puts (Acked p)) nothing
      (Leads_puts (Acked p) (λ x past h. rests_of (acked p (date_ended x past k h.0.0.just.free.took h.1) h.0.0.just.free)))
      (idle_heard (λ x past h. h.0.0))
  date_acked_in_leads _ k = idle_heard (λ x past h. h.0)

  pub date_acked_leads : m.kind ≡ DateAck → Leads (Heard p (Good (Message m))) (date_acked m p) Rests
  unfolding date_acked
  date_acked_leads k = Leads_reading role_at (date_acked_in m p) (λ r. date_acked_in_leads r k)
