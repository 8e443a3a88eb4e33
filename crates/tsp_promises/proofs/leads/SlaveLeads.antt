-- The rows of a port that is Loose or follows keep what is known of it.
use Rattle.std.proofs.Common.{sym, subst, inl, inr, ap, arith, true≢false, eqb-true, ◌∙◌, ◌≡◌, ◌≢◌, ◌⊎◌, ◌≤◌, ℕ, ◌+◌, ◌==◌, ℤ, ◌-ℤ◌, Bool, true, false, ◌||◌}
use Rattle.std.proofs.Common.{if◌then◌else◌, List, [], ◌∷◌, Option, None, Some, refl}
use Rattle.std.proofs.lemmas.Bool.{and_parts}
use Rattle.tsp_rules.specs.Values.{Boot, Post, Back, Correct, Quit, Search, Message, Good, Kind, Accept, Ack, AdjTime, Conflict, Election, QuitKind, Refuse}
use Rattle.tsp_rules.specs.Values.{SetTime, PeerId, Peer, Role, Loose, Follow, Candidate, GAP, QUIET, Taken}
use Rattle.tsp_rules.{specs.ClockRows.adjusts, specs.ClockRows.sets, specs.ClockRows.can_adjust, specs.ClockRows.is_step, proofs.Asides.now}
use Rattle.tsp_rules.specs.CommonRows.{arms_elect, tells_ticket, follow_row, quits, follows_unless}
use Rattle.tsp_rules.specs.{SendRows.begins, SendRows.is_free, Guards.role_at, Guards.is_armed, Guards.is_clock_value, Guards.may_back_at}
use Rattle.tsp_rules.specs.SlaveRows.{reports_conflict, masterup_in, masterack_in, election_of, is_next, is_by, is_repeated, acks_repeat, confirms}
use Rattle.tsp_rules.specs.SlaveRows.{takes_amount, adjtime_of, takes_value, settime_of, from_master}
use Rattle.tsp_rules.proofs.GuardFacts.{past_is, back_is, same_peer}
use Rattle.tsp_base.specs.Words.{Deed, Acts, Did, Seen, Past, plain, is_past, Leads, MessageValue, boot_tick, boot_after, ticket, target, last_correct}
use Rattle.tsp_base.specs.Words.{last_correct_after, correct_place, correct_place_after, correct_tick, shown, tick_in, Received, Said, role, said, held, armed}
use Rattle.tsp_base.specs.Words.{Row, grown, nothing, puts, ◌followed_by◌, reading, bare, posts, is_correction, Correcting, correcting_of, last_taken, time_in}
use Rattle.tsp_base.proofs.LeadsLemmas.{Leads_then, Leads_either, Leads_reading, Leads_nothing, Leads_puts, Leads_from, Leads_to}
use Rattle.tsp_promises.{specs.AckFits.Answers, proofs.leads.PostLeaves.Leads_posts, proofs.leads.PostLeaves.post_knows, proofs.leads.PostLeaves.post_message}
use Rattle.tsp_promises.specs.CorrectFits.{ByMaster, amount_of, sets_time}
use Rattle.tsp_promises.specs.StepFacts.{backed, owes, owes_after}
use Rattle.tsp_promises.proofs.{leads.Known.Free, leads.Known.KnowsOf, leads.Known.Rests, shared.Printed.adjusts_prints, shared.Printed.flag_of}
use Rattle.tsp_promises.proofs.{shared.Printed.sets_prints}
use Rattle.tsp_promises.proofs.leads.Leaves.{correct, arm_elect, none_among}
use Rattle.tsp_promises.proofs.leads.Changes.{Quitting, quitting_of, back_other, quit_acked, quit_taken}
use Rattle.tsp_promises.proofs.leads.CommonLeads.{arms_elect_keeps, arms_elect_during, tells_ticket_during, follow_leads, begins_conflict}
use Rattle.tsp_promises.proofs.leads.TakenLeads.{Says, Heard, HeardIn, rests_of, ack_fits, quit_ack, quits_now}

-- nothing is done
pub idle_heard : {p : PeerId} {t : Taken} {P : ℕ → Past → Type 0} → ((x : ℕ) (past : Past) → P x past → Heard p t x past) → Leads P nothing Rests
idle_heard k = Leads_from (λ x past h. rests_of (k x past h).just.free) Leads_nothing

module _ {p : PeerId} {m : MessageValue} where
  pub follow_heard : Leads (Heard p (Good (Message m))) (follow_row p) Rests
  follow_heard = Leads_from (λ x past h. quitting_of h.just.free) (Leads_to (λ x past h. rests_of h.free) (follow_leads p))

  pub reports_heard : (q : PeerId) → Leads (Heard p (Good (Message m))) (reports_conflict q) Rests
  unfolding reports_conflict
  reports_heard q = Leads_either (is_free q) (begins Conflict q) nothing
      (Leads_from (λ x past h. h.0.just.free) (Leads_to (λ x past h. rests_of h) (begins_conflict q)))
      (idle_heard (λ x past h. h.0))

  pub hears_again : Leads (Heard p (Good (Message m))) (arms_elect followed_by tells_ticket p) Rests
  hears_again = Leads_from (λ x past h. h.just.free) (Leads_to (λ x past h. rests_of h)
      (Leads_then arms_elect (tells_ticket p) arms_elect_during (tells_ticket_during p)))

  pub masterup_leads : (r : Role) → Leads (Heard p (Good (Message m))) (masterup_in p r) Rests
  unfolding masterup_in
  masterup_leads Loose = follow_heard
  masterup_leads (Follow q) = elim (q.0 == p.0) as (λ b. Leads (Heard p (Good (Message m))) (if b then (arms_elect followed_by tells_ticket p)
      else reports_conflict q) Rests) [ true ↦ hears_again | false ↦ reports_heard q ]
  masterup_leads _ = idle_heard (λ x past h. h)

  pub masterack_leads : (r : Role) → Leads (Heard p (Good (Message m))) (masterack_in p r) Rests
  unfolding masterack_in
  masterack_leads Loose = Leads_either (is_armed Search) (follow_row p) nothing (Leads_from (λ x past h. h.0) follow_heard) (idle_heard (λ x past h. h.0))
  masterack_leads (Follow q) = elim (q.0 == p.0) as (λ b. Leads (Heard p (Good (Message m))) (if b then nothing else reports_conflict q) Rests)
      [ true ↦ idle_heard (λ x past h. h) | false ↦ reports_heard q ]
  masterack_leads _ = idle_heard (λ x past h. h)

-- a port that has backed p in this step
record Backing (p : PeerId) (T : Option Received → Option Received → Type 0) (x : ℕ) (past : Past) : Type 0 where
  pub free : Free T x past
  pub backed_is : backed past.seen ≡ Some p

-- a port whose node's last correction took this number from p
pub record Obeyed (p : PeerId) (number : ℕ) (T : Option Received → Option Received → Type 0) (x : ℕ) (past : Past) : Type 0 where
  pub free : Free T x past
  pub taken_is : last_taken past.seen ≡ Some (record { from = p; number = number })

-- a follower that has taken a QUIT, which it acknowledges or has acknowledged
record Staying (due : Option Said) (T : Option Received → Option Received → Type 0) (q : PeerId) (x : ℕ) (past : Past) : Type 0 where
  pub quitting : Quitting due [] T x past
  pub knows : KnowsOf false x past.own past.seen
  pub role_is : role past.seen ≡ Follow q

-- an election is answered by a port that isn't a candidate itself
pub election_leads : {r : Role} (p : PeerId) (m : MessageValue) → m.kind ≡ Election → r ≢ Candidate → Leads (HeardIn p m r) (election_of p m.number) Rests
unfolding election_of
election_leads p m kind other = Leads_either (may_back_at p) (puts (Back p) followed_by (arms_elect followed_by posts p Accept m.number))
    (posts p Refuse m.number)
    (Leads_then {Q = Backing p (Says p m)} (puts (Back p)) (arms_elect followed_by posts p Accept m.number)
    (Leads_puts (Back p) (λ x past h. record {
      free = back_other p (λ c. other (sym h.0.1 ∙ c)) (record {
        rested = h.0.0.just.free.rested refl;
        holds = λ y q e. back_is (held past.seen).back x p h.1 (y, q) e;
      }) h.0.0.just.free;
      backed_is = refl;
    }))
    (Leads_then {Q = Backing p (Says p m)} arms_elect (posts p Accept m.number)
    (arms_elect_keeps (λ x past at h. record { free = arm_elect at h.free; backed_is = h.backed_is }))
    (Leads_posts p Accept m.number (λ x past h. rests_of (post_message p (bare Accept m.number past.name) refl (record {
      backs = h.backed_is;
      message = m;
      took = h.free.took;
      kind = kind;
      number_is = refl;
    }) h.free)))))
    (Leads_posts p Refuse m.number (λ x past h. rests_of (post_message p (bare Refuse m.number past.name) refl tt h.0.0.just.free)))

-- the last correction's tick, where there was one since the boot
correct_cases : (ds : List Did) → ((correct_tick ds ≡ None) × (last_correct ds ≡ boot_tick ds)) ⊎ (correct_tick ds ≡ Some (last_correct ds))
correct_cases [] = inl (refl, refl)
correct_cases (d ∷ before) = by_deed d.deed (correct_cases before) where
  by_deed : (deed : Deed) → ((correct_tick before ≡ None) × (last_correct before ≡ boot_tick before)) ⊎ (correct_tick before ≡ Some (last_correct before)) →
      ((tick_in (correct_place_after deed (d ∷ before) (correct_place before)) ≡ None) × (last_correct_after deed d.tick (last_correct before) ≡
      boot_after deed d.tick (boot_tick before)))
      ⊎ (tick_in (correct_place_after deed (d ∷ before) (correct_place before)) ≡ Some (last_correct_after deed d.tick (last_correct before)))
  by_deed (Acts Boot) h = inl (refl, refl)
  by_deed (Acts (Correct amount stepped shown)) h = inr refl
  by_deed _ h = h

pub gap_of : (x : ℕ) (past : Past) → is_past (correct_tick (plain past.seen)) GAP x ≡ true → boot_tick (plain past.seen) + QUIET ≤ x →
    last_correct (plain past.seen) + GAP ≤ x
gap_of x past e rested = elim (correct_cases (plain past.seen)) [
  | inl h ↦ let same = h.1 in omega (arith, same, rested)
  | inr h ↦ past_is (correct_tick (plain past.seen)) GAP x e (last_correct (plain past.seen)) h
]

-- a follower has no round
no_close : (x : ℕ) (past : Past) (q : PeerId) → role past.seen ≡ Follow q → {T : Option Received → Option Received → Type 0} → Free T x past → (o : Option ℕ) →
    (armed past.seen).close ≡ o → (armed past.seen).close ≡ None
no_close x past q r h None e = e
no_close x past q r h (Some at) e = let leads = (h.knows.round.closes refl at e).leads in let bad : ⊥ = cc in absurd bad

is_by_is : (p : PeerId) (number : ℕ) (o : Option Correcting) → is_by p number o ≡ true → o ≡ Some (record { from = p; number = number })
is_by_is p number None e = absurd (true≢false (sym e))
is_by_is p number (Some c) e =
    let both = and_parts (c.from.0 == p.0) (c.number == number) e in
    let from : c.from ≡ p = same_peer c.from p both.0 in
    let count : c.number ≡ number = eqb-true c.number number both.1 in
    ap (λ (q : PeerId). Some (record { from = q; number = c.number })) from ∙ ap (λ n. Some (record { from = p; number = n })) count

module _ {p : PeerId} {m : MessageValue} where
  -- the ACK of a correction
  obeyed_ack : (kind : is_correction m.kind ≡ true) → Leads (Obeyed p m.number (Says p m)) (posts p Ack m.number) Rests
  obeyed_ack kind = Leads_posts p Ack m.number (λ x past h.
      rests_of (post_message p (bare Ack m.number past.name) refl (ack_fits (Peer p) m past.seen h.free.took (answer m.kind kind past.seen h.taken_is)) h.free))
    where
      answer : (k : Kind) → is_correction k ≡ true → (seen : List Seen) → last_taken seen ≡ Some (record { from = p; number = m.number }) →
          Answers k (Peer p) seen m.number
      answer AdjTime c seen t = t
      answer SetTime c seen t = t
      answer _ c seen t = absurd (true≢false (sym c))

  pub confirms_lead : is_correction m.kind ≡ true → Leads (Obeyed p m.number (Says p m)) (confirms p m.number) Rests
  unfolding confirms
  confirms_lead kind = Leads_then {Q = Obeyed p m.number (Says p m)} arms_elect (posts p Ack m.number)
      (arms_elect_keeps (λ x past at h. record { free = arm_elect at h.free; taken_is = h.taken_is }))
      (obeyed_ack kind)

  pub acks_repeat_leads : is_correction m.kind ≡ true → {P : ℕ → Past → Type 0} → ((x : ℕ) (past : Past) → P x past → Heard p (Good (Message m)) x past) →
      Leads P (acks_repeat p m.number) Rests
  unfolding acks_repeat
  acks_repeat_leads kind k = Leads_either (is_repeated p m.number) (posts p Ack m.number) nothing
      (Leads_from (λ x past h. record { free = (k x past h.0).just.free; taken_is = is_by_is p m.number (last_taken past.seen) h.1 }) (obeyed_ack kind))
      (idle_heard (λ x past h. k x past h.0))

  -- a correction of the followed master is obeyed
  obeys : (x : ℕ) (past : Past) (amount : ℤ) (stepped : Bool) (printed : ℤ) (sets : Bool) → is_correction m.kind ≡ true → HeardIn p m (Follow p) x past →
      is_next m.number x past ≡ true →
      amount ≡ amount_of m.kind (time_in m.body) (target (plain past.seen) x) → sets_time m.kind ≡ sets → stepped ≡ (sets || is_step amount) → printed ≡
      shown (now x past (Correct amount stepped printed) ∷ plain past.seen) x →
      Obeyed p m.number (Says p m) x (grown x past (Correct amount stepped printed ∷ []))
  obeys x past amount stepped printed sets kind h next amount_is sets_is steps prints =
      let free = h.0.just.free in
      let just = h.0.just in
      let both = and_parts (m.number == ticket (plain past.seen)) (is_past (correct_tick (plain past.seen)) GAP x) next in
      let rested = free.rested refl in
      record {
        free = correct amount stepped printed (no_close x past p h.1 free _ refl) (record {
          gap = gap_of x past both.1 rested;
          rested = rested;
          why = ByMaster (record {
            from = p;
            message = m;
            took = just.took;
            past = just.rest;
            is = just.is;
            deed = just.deed;
            kind = kind;
            number = eqb-true m.number (ticket (plain past.seen)) both.0;
            amount_is = amount_is;
            follows = h.1;
          });
          flag = steps ∙ flag_of (Peer p) m amount just.took just.rest past.seen sets just.is just.deed sets_is;
          prints = prints;
        }) free;
        taken_is = ap (λ o. correcting_of (said o)) free.took ∙ ap (λ b. if b then Some (record { from = p; number = m.number }) else None) kind;
      }

  pub adjtime_leads : m.kind ≡ AdjTime → Leads (HeardIn p m (Follow p)) (adjtime_of p m.number (time_in m.body)) Rests
  unfolding adjtime_of adjusts
  adjtime_leads k =
      let kind : is_correction m.kind ≡ true = subst (λ i. is_correction i ≡ true) (sym k) refl in
      Leads_either (takes_amount m.number (time_in m.body)) (adjusts (time_in m.body) followed_by confirms p m.number) (acks_repeat p m.number)
      (Leads_then {Q = Obeyed p m.number (Says p m)} (adjusts (time_in m.body)) (confirms p m.number)
      (record {
        run = λ x past h.
            let both = and_parts (is_next m.number x past) (can_adjust (time_in m.body) x past) h.1 in
            obeys x past (time_in m.body) (is_step (time_in m.body)) _ false kind h.0 both.0
            (sym (ap (λ i. amount_of i (time_in m.body) (target (plain past.seen) x)) k))
            (ap sets_time k) refl (adjusts_prints x past (time_in m.body) (is_step (time_in m.body)));
      })
      (confirms_lead kind))
      (acks_repeat_leads kind (λ x past h. h.0.0))

  pub settime_leads : m.kind ≡ SetTime → Leads (HeardIn p m (Follow p)) (settime_of p m.number (time_in m.body)) Rests
  unfolding settime_of sets
  settime_leads k =
      let kind : is_correction m.kind ≡ true = subst (λ i. is_correction i ≡ true) (sym k) refl in
      Leads_either (takes_value m.number (time_in m.body)) (sets (time_in m.body) followed_by confirms p m.number) (acks_repeat p m.number)
      (Leads_then {Q = Obeyed p m.number (Says p m)} (sets (time_in m.body)) (confirms p m.number)
      (record {
        run = λ x past h.
            let both = and_parts (is_next m.number x past) (is_clock_value (time_in m.body)) h.1 in
            obeys x past (time_in m.body -ℤ target (plain past.seen) x) true (time_in m.body) true kind h.0 both.0
            (sym (ap (λ i. amount_of i (time_in m.body) (target (plain past.seen) x)) k))
            (ap sets_time k) refl (sets_prints x past (time_in m.body));
      })
      (confirms_lead kind))
      (acks_repeat_leads kind (λ x past h. h.0.0))

  pub from_master_leads : (row : Row) → Leads (HeardIn p m (Follow p)) row Rests → (r : Role) → Leads (λ x past. Heard p (Good (Message m)) x past ×
      (role_at x past ≡ r)) (from_master p row r) Rests
  unfolding from_master
  from_master_leads row k (Follow q) = by_case (q.0 == p.0) refl where
    by_case : (b : Bool) → (q.0 == p.0) ≡ b → Leads (λ x past. Heard p (Good (Message m)) x past × (role_at x past ≡ Follow q)) (if b then row else nothing)
        Rests
    by_case true e = Leads_from (λ x past h. (h.0, h.1 ∙ ap Follow (same_peer q p e))) k
    by_case false e = idle_heard (λ x past h. h.0)
  from_master_leads row k _ = idle_heard (λ x past h. h.0)

  stays : (q : PeerId) (x : ℕ) (past : Past) → HeardIn p m (Follow q) x past → m.kind ≡ QuitKind →
      Staying (Some (record { from = p; message = m })) (Says p m) q x (grown x past (Quit p ∷ []))
  stays q x past h k =
      let f = h.0.just.free in
      let v = f.knows.vote in
      record {
        quitting = quit_taken p (Some (record { from = p; message = m })) [] (quits_now x past k h.0) (ap said f.took)
            (ap (λ i. owes_after (Acts (Quit p)) i (owes past.seen)) h.1 ∙ f.owed) f;
        knows = record {
          times = f.knows.times;
          quiet = f.knows.quiet;
          vote = record {
            stands = λ c. not-standing q (sym h.1 ∙ c);
            windows = v.windows;
            votes = v.votes;
          };
          round = f.knows.round;
        };
        role_is = h.1;
      }
    where
      not-standing : {B : Type 0} (q : PeerId) → Follow q ≡ Candidate → B
      not-standing q e = let bad : ⊥ = cc in absurd bad

  acks_quit : (q : PeerId) (x : ℕ) (past : Past) → m.kind ≡ QuitKind → Staying (Some (record { from = p; message = m })) (Says p m) q x past →
      Staying None (Says p m) q x (grown x past (Post (Peer p) (Message (bare Ack m.number past.name)) ∷ []))
  acks_quit q x past k h = record {
    quitting = quit_acked p m (bare Ack m.number past.name) refl refl (quit_ack past k h.quitting.took) h.quitting;
    knows = post_knows x past p (bare Ack m.number past.name) (λ r e. absurd (true≢false (sym e))) h.quitting.rested h.knows;
    role_is = h.role_is;
  }

  stays_follow : (q : PeerId) (x : ℕ) (past : Past) → Staying None (Says p m) q x past → Rests x (grown x past (follows_unless p (Follow q) x past))
  unfolding follows_unless nothing
  stays_follow q x past h = record {
    fits = h.quitting.fits;
    knows = h.knows;
    backs = h.quitting.backs;
    follows = λ r e. none_among r h.quitting.owed e;
    paid = h.quitting.paid;
  }

  -- a follower takes a QUIT, and goes on following
  pub quit_follower : (q : PeerId) → m.kind ≡ QuitKind → Leads (HeardIn p m (Follow q)) (quits p m.number) Rests
  unfolding quits
  quit_follower q k = Leads_then {Q = Staying (Some (record { from = p; message = m })) (Says p m) q} (puts (Quit p))
      (posts p Ack m.number followed_by reading role_at (follows_unless p))
      (Leads_puts (Quit p) (λ x past h. stays q x past h k))
      (Leads_then {Q = Staying None (Says p m) q} (posts p Ack m.number) (reading role_at (follows_unless p))
      (Leads_posts p Ack m.number (λ x past h. acks_quit q x past k h))
      (Leads_reading role_at (follows_unless p) (λ a. record {
        run = λ x past h.
            let same : a ≡ Follow q = sym h.1 ∙ h.0.role_is in
            subst (λ r. Rests x (grown x past (follows_unless p r x past))) (sym same) (stays_follow q x past h.0);
      })))
