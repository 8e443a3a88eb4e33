-- What a port does with a message of a peer keeps what is known of it, in each role.
use Rattle.std.proofs.Common.{sym, subst, inl, true≢false, ◌∙◌, ◌≡◌, ◌≢◌, ℕ, ◌+◌, ◌==◌, ℤ, true, false, [], ◌∷◌, Option, refl, ap, eqb-true, eq-eqb, List, None}
use Rattle.std.proofs.Common.{Some}
use Rattle.std.proofs.lemmas.Bool.{and_parts}
use Rattle.tsp_base.proofs.ViewPlaces.{or-false}
use Rattle.tsp_promises.proofs.{leads.Changes.FreeIn, leads.Changes.become_loose, leads.Known.Free, leads.Known.Rests, leads.Known.asks_vote}
use Rattle.tsp_promises.proofs.{shared.Printed.sets_target}
use Rattle.tsp_promises.proofs.leads.PostLeaves.{post_message, Leads_arms, Leads_posts, Leads_others, Leads_posts_time}
use Rattle.tsp_promises.specs.{AckFits.Answers, HoldFits.BackerFits}
use Rattle.tsp_promises.proofs.{leads.CorrectionLeads.Began, leads.CorrectionLeads.open_is, leads.CorrectionLeads.may_fits, leads.CommonLeads.begins_quit}
use Rattle.tsp_promises.proofs.{leads.CommonLeads.arms_elect_during}
use Rattle.tsp_promises.specs.{CorrectionFits.CorrectionFits, CorrectionFits.SetsTarget, PortFits.PortFits, PortFits.setup_in}
use Rattle.tsp_promises.proofs.leads.Leaves.{none_among, join, rival, arm_resolve, acked, backer}
use Rattle.tsp_promises.proofs.leads.TakenLeads.{Says, Heard, HeardIn, rests_of, ack_fits, acknowledges_lead, quits_lead, election_acked}
use Rattle.tsp_promises.proofs.leads.SlaveLeads.{follow_heard, idle_heard, masterup_leads, masterack_leads, election_leads, adjtime_leads, settime_leads}
use Rattle.tsp_promises.proofs.leads.SlaveLeads.{from_master_leads}
use Rattle.tsp_rules.specs.Values.{Post, Join, Rival, ResolveAlarm, Message, Good, Kind, Accept, Ack, AdjTime, Conflict, Election, MasterAck, MasterReq}
use Rattle.tsp_rules.specs.Values.{MasterUp, QuitKind, Refuse, ResolveKind, SetTime, SlaveUp, PeerId, Peer, Role, Candidate, Master, WINDOW, Become, Backer}
use Rattle.tsp_rules.specs.Values.{Acked, Loose}
use Rattle.tsp_rules.specs.MasterRows.{may_join, joins, sends_away, master_takes_kind}
use Rattle.tsp_rules.{specs.ResolveRows.resolves, specs.ResolveRows.is_new_rival, specs.ResolveRows.finds_rival, proofs.Asides.now}
use Rattle.tsp_rules.specs.SendRows.{begins, acknowledges, may_correct, may_set, begins_settime, has_quit, has_election, answers_election, is_kind_election}
use Rattle.tsp_rules.specs.SlaveRows.{masterup_in, masterack_in, from_master, adjtime_of, settime_of, slave_takes_kind}
use Rattle.tsp_rules.specs.{Guards.role_at, Guards.is_armed, Guards.is_in_range, Guards.target_at, CommonRows.quits, CommonRows.arms_elect}
use Rattle.tsp_rules.proofs.GuardFacts.{same_peer}
use Rattle.tsp_rules.specs.CandidateRows.{candidate_takes_kind, yields, accepted_by, refused_by}
use Rattle.tsp_base.specs.Words.{Past, Leads, MessageValue, nothing, puts, ◌followed_by◌, either_by, reading, arms, bare, timed, posts}
use Rattle.tsp_base.specs.Words.{posts_to_others, posts_time, time_in, Seen, Here, grown, Sending, open_send, open_to, message_at, Setup}
use Rattle.tsp_base.proofs.LeadsLemmas.{Leads_then, Leads_either, Leads_reading, Leads_nothing, Leads_puts, Leads_from, Leads_to}

-- the answers to a candidate's votes keep what is known of a port

-- the ELECTION that is open to p under this number
record VoteAsked (setup : Setup) (p : PeerId) (number : ℕ) (seen : List Seen) : Type 0 where
  pub began : Began setup p seen
  pub kind : began.message.kind ≡ Election
  pub number_is : began.message.number ≡ number

election_is : (k : Kind) → is_kind_election k ≡ true → k ≡ Election
election_is Election e = refl
election_is _ e = absurd (true≢false (sym e))

vote_open : (setup : Setup) (p : PeerId) (number : ℕ) (seen : List Seen) → PortFits setup seen → (o : Option Sending) → open_send p seen ≡ o →
    answers_election number o ≡ true → VoteAsked setup p number seen
vote_open setup p number seen f None is e = absurd (true≢false (sym e))
vote_open setup p number seen f (Some s) is e =
    let o = open_is setup p seen s f is in
    let both = and_parts (is_kind_election s.message.kind) (s.message.number == number) e in
    let m = o.message_is in
    record {
      began = o.began;
      kind = ap (λ (t : MessageValue). t.kind) (sym m) ∙ election_is s.message.kind both.0;
      number_is = ap (λ (t : MessageValue). t.number) (sym m) ∙ eqb-true s.message.number number both.1;
    }

-- a candidate whose vote was answered
record Answered (p : PeerId) (m : MessageValue) (x : ℕ) (past : Past) : Type 0 where
  pub free : Free (Says p m) x past
  pub ended : open_to p past.seen ≡ []
  pub fits : BackerFits (setup_in past) (now x past (Backer p)) past.seen p

module _ {p : PeerId} {m : MessageValue} where
  answered : (x : ℕ) (past : Past) → m.kind ≡ Accept → Heard p (Good (Message m)) x past → has_election p m.number x past ≡ true →
      Answered p m x (grown x past (Acked p ∷ []))
  answered x past k h e =
      let v = vote_open (setup_in past) p m.number past.seen h.just.free.fits (open_send p past.seen) refl e in
      let asks : asks_vote (message_at (open_to p past.seen)) ≡ true = ap (λ place. asks_vote (message_at place)) v.began.is ∙ ap
      (λ d. asks_vote (message_at (Here (record v.began.first { deed = d }) ∷ v.began.older))) v.began.deed ∙ ap is_kind_election v.kind in
      let same : (p.0 == p.0) ≡ true = eq-eqb p.0 p.0 refl in
      record {
        free = acked p (election_acked p m.number x past e) h.just.free;
        ended = rw same refl;
        fits = record {
          peer = h.peer;
          other = h.other;
          new = h.just.free.knows.vote.votes p asks;
          answer = m;
          took = h.just.free.took;
          kind = k;
          acked = now x past (Acked p);
          past = past.seen;
          is = refl;
          deed = refl;
          first = v.began.first;
          older = v.began.older;
          ends = v.began.is;
          message = v.began.message;
          asks = v.began.deed;
          election = v.kind;
          number = v.number_is;
        };
      }

  pub accepted_lead : m.kind ≡ Accept → Leads (Heard p (Good (Message m))) (accepted_by p m.number) Rests
  unfolding accepted_by
  accepted_lead k = Leads_either (has_election p m.number) (puts (Acked p) followed_by puts (Backer p)) nothing
      (Leads_then {Q = Answered p m} (puts (Acked p)) (puts (Backer p))
      (Leads_puts (Acked p) (λ x past h. answered x past k h.0 h.1))
      (Leads_puts (Backer p) (λ x past h. rests_of (backer p h.fits h.ended h.free))))
      (idle_heard (λ x past h. h.0))

  pub refused_lead : Leads (HeardIn p m Candidate) (refused_by p m.number) Rests
  unfolding refused_by yields
  refused_lead = Leads_either (has_election p m.number) (puts (Acked p) followed_by (puts (Become Loose) followed_by arms_elect)) nothing
      (Leads_then {Q = FreeIn [] (Says p m) Candidate} (puts (Acked p)) (puts (Become Loose) followed_by arms_elect)
      (Leads_puts (Acked p) (λ x past h. record { free = acked p (election_acked p m.number x past h.1) h.0.0.just.free; role_is = h.0.1 }))
      (Leads_then {Q = Free (Says p m)} (puts (Become Loose)) arms_elect
      (Leads_puts (Become Loose) (λ x past h. become_loose (λ e. let r = h.role_is in let bad : ⊥ = cc in absurd bad) h.free))
      (Leads_to (λ x past h. rests_of h) arms_elect_during)))
      (idle_heard (λ x past h. h.0.0))

module _ {p : PeerId} {m : MessageValue} where
  pub acknowledged : {r : Role} → m.kind ≡ Ack → Leads (HeardIn p m r) (acknowledges p m.number) Rests
  acknowledged k = Leads_from (λ x past h. h.0.just.free) (Leads_to (λ x past h. rests_of h) (acknowledges_lead k))

  -- by the kind of the message
  pub slave_leads : (r : Role) → r ≢ Candidate → (m.kind ≡ QuitKind → Leads (HeardIn p m r) (quits p m.number) Rests) → (k : Kind) → m.kind ≡ k →
      Leads (HeardIn p m r) (slave_takes_kind p m k) Rests
  unfolding slave_takes_kind
  slave_leads r other quit MasterUp e = Leads_reading role_at (masterup_in p) (λ a. Leads_from (λ x past h. h.0.0) (masterup_leads a))
  slave_leads r other quit MasterAck e = Leads_reading role_at (masterack_in p) (λ a. Leads_from (λ x past h. h.0.0) (masterack_leads a))
  slave_leads r other quit Election e = election_leads p m e other
  slave_leads r other quit AdjTime e = Leads_reading role_at (from_master p (adjtime_of p m.number (time_in m.body)))
      (λ a. Leads_from (λ x past h. (h.0.0, h.1)) (from_master_leads (adjtime_of p m.number (time_in m.body)) (adjtime_leads e) a))
  slave_leads r other quit SetTime e = Leads_reading role_at (from_master p (settime_of p m.number (time_in m.body)))
      (λ a. Leads_from (λ x past h. (h.0.0, h.1)) (from_master_leads (settime_of p m.number (time_in m.body)) (settime_leads e) a))
  slave_leads r other quit QuitKind e = quit e
  slave_leads r other quit Ack e = acknowledged e
  slave_leads r other quit _ e = idle_heard (λ x past h. h.0)

module _ {p : PeerId} {m : MessageValue} where
  pub candidate_leads : (k : Kind) → m.kind ≡ k → Leads (HeardIn p m Candidate) (candidate_takes_kind p m k) Rests
  unfolding candidate_takes_kind
  candidate_leads MasterUp e = Leads_from (λ x past h. h.0) follow_heard
  candidate_leads MasterAck e = Leads_from (λ x past h. h.0) follow_heard
  candidate_leads Election e = Leads_posts p Refuse m.number (λ x past h. rests_of (post_message p (bare Refuse m.number past.name) refl tt h.0.just.free))
  candidate_leads Accept e = Leads_from (λ x past h. h.0) (accepted_lead e)
  candidate_leads Refuse e = refused_lead
  candidate_leads QuitKind e = quits_lead Candidate [] (λ q i. let bad : ⊥ = cc in absurd bad) refl (λ q i. none_among q refl i) e
  candidate_leads Ack e = acknowledged e
  candidate_leads _ e = idle_heard (λ x past h. h.0)

module _ {p : PeerId} {m : MessageValue} where
  answers_slave : (x : ℕ) (past : Past) (t : ℤ) → m.kind ≡ SlaveUp → may_correct p m.number x past ≡ true →
      SetsTarget (now x past (Post (Peer p) (Message (timed SetTime m.number t past.name)))) past.seen (timed SetTime m.number t past.name) →
      FreeIn [] (Says p m) Master x past →
      CorrectionFits (now x past (Post (Peer p) (Message (timed SetTime m.number t past.name)))) past.seen p (timed SetTime m.number t past.name)
  answers_slave x past t k may sets h = record {
    leads = h.role_is;
    begins = λ acts. record {
      rested = h.free.rested refl;
      from = inl (record { sets = refl; message = m; took = h.free.took; kind = k; number = refl });
      may = may_fits p m.number x past (now x past (Post (Peer p) (Message (timed SetTime m.number t past.name)))) (timed SetTime m.number t past.name) refl
          refl may;
      sets = λ kind. sets;
    };
    repeats = λ still. absurd (true≢false (sym h.free.acting_is ∙ still));
  }

  pub joins_lead : m.kind ≡ SlaveUp → Leads (HeardIn p m Master) (joins p m.number) Rests
  unfolding joins begins_settime
  joins_lead k = Leads_either (may_join p m.number) (puts (Join p) followed_by either_by (may_set p m.number)
      (reading target_at (posts_time p SetTime m.number)) nothing) nothing
      (Leads_then {Q = FreeIn [] (Says p m) Master} (puts (Join p)) (either_by (may_set p m.number) (reading target_at (posts_time p SetTime m.number)) nothing)
      (Leads_puts (Join p) (λ x past h. record { free = join p h.0.0.just.free; role_is = h.0.1 }))
      (Leads_either (may_set p m.number) (reading target_at (posts_time p SetTime m.number)) nothing
      (Leads_reading target_at (posts_time p SetTime m.number) (λ t. Leads_posts_time p SetTime m.number t (λ x past h.
      let may = and_parts (may_correct p m.number x past) (is_in_range x past) h.0.1 in
      rests_of (post_message p (timed SetTime m.number t past.name) refl (answers_slave x past t k may.0
      (sets_target x past (now x past (Post (Peer p) (Message (timed SetTime m.number t past.name)))) (timed SetTime m.number t past.name) refl (sym h.1)
      may.1) h.0.0) h.0.0.free))))
      (Leads_from (λ x past h. rests_of h.0.free) Leads_nothing)))
      (idle_heard (λ x past h. h.0.0))

  pub sends_away_leads : Leads (Heard p (Good (Message m))) (sends_away p) Rests
  unfolding sends_away
  sends_away_leads = Leads_either (has_quit p) nothing (begins QuitKind p)
      (idle_heard (λ x past h. h.0))
      (Leads_from (λ x past h. h.0.just.free) (Leads_to (λ x past h. rests_of h) (begins_quit p)))

  pub resolves_free : Leads (Free (Says p m)) resolves Rests
  unfolding resolves
  resolves_free = Leads_either (is_armed ResolveAlarm) nothing (arms ResolveAlarm WINDOW followed_by posts_to_others ResolveKind 0)
      (Leads_from (λ x past h. rests_of h.0) Leads_nothing)
      (Leads_then {Q = Free (Says p m)} (arms ResolveAlarm WINDOW) (posts_to_others ResolveKind 0)
      (Leads_arms ResolveAlarm WINDOW (λ x past h. arm_resolve (x + WINDOW) h.0))
      (Leads_to (λ x past h. rests_of h) (Leads_others ResolveKind 0 (λ x past q h. post_message q (bare ResolveKind 0 past.name) refl tt h))))

  pub finds_rival_leads : Leads (Heard p (Good (Message m))) (finds_rival p) Rests
  unfolding finds_rival
  finds_rival_leads = Leads_either (is_new_rival p) (puts (Rival p)) nothing
      (Leads_puts (Rival p) (λ x past h. rests_of (rival p h.0.just.free)))
      (idle_heard (λ x past h. h.0))

  pub answers_master : Leads (Heard p (Good (Message m))) (posts p MasterAck m.number) Rests
  answers_master = Leads_posts p MasterAck m.number (λ x past h. rests_of (post_message p (bare MasterAck m.number past.name) refl tt h.just.free))

  pub conflict_leads : m.kind ≡ Conflict → Leads (Heard p (Good (Message m))) (posts p Ack m.number followed_by resolves) Rests
  conflict_leads k = Leads_then {Q = Free (Says p m)} (posts p Ack m.number) resolves
      (Leads_posts p Ack m.number (λ x past h. post_message p (bare Ack m.number past.name) refl
      (ack_fits (Peer p) m past.seen h.just.free.took (subst (λ i. Answers i (Peer p) past.seen m.number) (sym k) tt)) h.just.free))
      resolves_free

  pub master_leads : (k : Kind) → m.kind ≡ k → Leads (HeardIn p m Master) (master_takes_kind p m k) Rests
  unfolding master_takes_kind
  master_leads MasterReq e = Leads_from (λ x past h. h.0) answers_master
  master_leads ResolveKind e = Leads_from (λ x past h. h.0) answers_master
  master_leads SlaveUp e = joins_lead e
  master_leads Election e = Leads_from (λ x past h. h.0) sends_away_leads
  master_leads MasterUp e = Leads_from (λ x past h. h.0.just.free) resolves_free
  master_leads Conflict e = Leads_from (λ x past h. h.0) (conflict_leads e)
  master_leads MasterAck e = Leads_from (λ x past h. h.0) finds_rival_leads
  master_leads QuitKind e = quits_lead Master (p ∷ []) (λ q i. let bad : ⊥ = cc in absurd bad) refl
      (λ q i. sym (same_peer p q (or-false (p.0 == q.0) false i refl))) e
  master_leads Ack e = acknowledged e
  master_leads _ e = idle_heard (λ x past h. h.0)
