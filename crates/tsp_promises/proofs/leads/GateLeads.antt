-- What a node answers over its ports keeps what is known of each.
use Rattle.std.proofs.Common.{sym, subst, ap, arith, inl, inr, true≢false, ◌∙◌, ◌≡◌, ◌<◌, ℕ, ◌+◌, ◌*◌, ◌==◌, Bool, true, false, if◌then◌else◌, List, ◌∷◌}
use Rattle.std.proofs.Common.{length, refl, eqb-true, ◌≤◌, ◌||◌, ◌&&◌, nat_lt, nat_le, []}
use Rattle.std.proofs.lemmas.Bool.{lt-ltb, le-ltb, and_parts}
use Rattle.tsp_promises.proofs.leads.HeedLeads.{Heeds, EndsIn, ends_family, open_heeds, takes_heed}
use Rattle.tsp_promises.proofs.leads.Known.{Open, Fresh, Rests, Ended, OpenIn, FreshIn, Untaken}
use Rattle.tsp_promises.proofs.{leads.AnswerLeads.takes_upsets, leads.AnswerLeads.dates_by, leads.AnswerLeads.open_rests, leads.CorrectionLeads.due_sends_lead}
use Rattle.tsp_promises.proofs.leads.GateSteps.{stirring_all, AtPort, own_of, at_to, on_run, on_leads, AllPorts, LeadsAll, All_after, Pick, picks, placed_all}
use Rattle.tsp_promises.proofs.leads.GateSteps.{All_reading, All_from, All_to, passes, same_port}
use Rattle.tsp_promises.proofs.leads.Elsewheres.{rests_family, rests_aside, kept_aside, moved_aside, calm_bootless, calm_still, Family, fresh_family}
use Rattle.tsp_promises.proofs.leads.Elsewheres.{open_family}
use Rattle.tsp_promises.proofs.leads.Elsewheres.{Upset, Upsets, upsets_never}
use Rattle.tsp_promises.proofs.shared.PortLists.{listed_ranged, listed, listed_from, other_listed, other_ranged, other_others, unlisted}
use Rattle.tsp_promises.proofs.{leads.LoopLeads.takes_loop_lead, leads.LoopLeads.loops_kept, leads.Changes.open_of, leads.RoundLeads.Probed}
use Rattle.tsp_promises.proofs.leads.AlarmTable.{Around, after_turn, alarm_leads, are_probed, around_open, before_turn}
use Rattle.tsp_rules.specs.Values.{Act, Took, Message, Stamp, Taken, Good, Bad, Kind, LoopKind, Place, Port, Alarm, Round, Probe, CloseAlarm, ALL}
use Rattle.tsp_rules.{specs.Answers.handles, specs.Answers.takes, specs.Answers.rings, proofs.BuiltAll.StirredPorts, proofs.FewActs.is_calm}
use Rattle.tsp_rules.specs.{RoundRows.corrects, Strangers.is_stranger, SendRows.due_sends}
use Rattle.tsp_rules.specs.GateRows.{ports_from, all_ports, other_ports, steers, in_charge, stirred_ports, takes_message, takes_kind, takes_on, NodeGiven}
use Rattle.tsp_rules.specs.GateRows.{NodeTurn, GotOn, input_all, turns_on, answers_all, leads_clock, waits, has_rung, is_last_probe, ends_probes, sends_loops}
use Rattle.tsp_rules.specs.GateRows.{loops_after, probes_on, closes_on, begins_round_on, is_probe, alarm_on, each_on, alarms_on}
use Rattle.tsp_rules.specs.NodeRows.{NodePast, on_port, spread, nothing_at_all, on, reading_all, for_ports, PortSetup, ◌and_then◌}
use Rattle.tsp_rules.proofs.CalmSteps.{TakesFirst, taking, calm_handles, calm_stamps, is_message}
use Rattle.tsp_rules.proofs.{Asides.aside, Asides.all_aside, NodeRowLemmas.Bootless, NodeRowLemmas.spread_append, CalmBuilt.calm_unmoving}
use Rattle.tsp_rules.proofs.{BuiltGate.built_sends_loops, CalmAlarms.calm_due_sends, CalmAlarms.moves_by, CalmAlarms.calm_rings}
use Rattle.tsp_base.specs.Words.{Past, MessageValue, grown, sets_date, Leads}

-- the due sends and alarms of all ports, one port after the other, keep what is known of each

-- a port whose turn has been, or is still to come
abbrev pub Standing : Bool → Bool → ℕ → Past → Type 0
Standing true stirred = OpenIn stirred Untaken
Standing false stirred = FreshIn stirred

standing_family : (b : Bool) → Family (Standing b)
standing_family true = open_family
standing_family false = fresh_family

module _ (done : Port → Bool) where
  -- the other ports while one has its turn
  abbrev Rest : Port → Bool → ℕ → Past → Type 0
  Rest r = Standing (done r)

  rest_family : (r : Port) → Family (Rest r)
  rest_family r = standing_family (done r)

  alarm_leads_holds : (q : Port) (wait : Bool) (alarm : Alarm) {P Q : ℕ → Past → Type 0} → moves_by alarm ≡ false → Leads P (rings true wait alarm) Q →
      LeadsAll (AtPort q P (λ r. Rest r false)) (on q (rings true wait alarm)) (AtPort q Q (λ r. Rest r false))
  alarm_leads_holds q wait alarm still k = on_leads Rest rest_family false q (rings true wait alarm)
      (λ x past. (calm_rings {strange = false} {moving = false} true wait alarm (λ e. sym still ∙ e)).calm x past) k

  loops_run : (q : Port) (acts : List Act) (x : ℕ) (past : NodePast) → AtPort q Probed (λ r. Rest r false) x past →
      AtPort q Probed (λ r. Rest r false) x (spread x past (loops_after q acts x past))
  unfolding loops_after
  loops_run q acts x past h = by_case (ends_probes acts (on_port q past) past.ports) refl where
    by_case : (b : Bool) → ends_probes acts (on_port q past) past.ports ≡ b → AtPort q Probed (λ r. Rest r false) x
        (spread x past (if b then on q (sends_loops q) x past else []))
    by_case true e =
        let rung = and_parts (has_rung acts) (is_last_probe (on_port q past) && nat_le 2 (length past.ports)) e in
        let last = and_parts (is_last_probe (on_port q past)) (nat_le 2 (length past.ports)) rung.1 in
        on_run Rest rest_family false q (sends_loops q) x past ((calm_unmoving {strange = false} {moving = false} refl (built_sends_loops q tt)).calm x
        (on_port q past)) (loops_kept q x (on_port q past) refl last.0 (own_of q x past h)) h
    by_case false e = h

  probes_lead : (q : Port) → LeadsAll (AtPort q Open (λ r. Rest r false)) (probes_on q) (AtPort q Probed (λ r. Rest r false))
  unfolding probes_on ◌and_then◌
  probes_lead q = record {
    run = λ x past h.
        let acts = rings true false Probe x (on_port q past) in
        let first = on q (rings true false Probe) x past in
        subst (λ z. AtPort q Probed (λ r. Rest r false) x z) (sym (spread_append x past first (loops_after q acts x (spread x past first))))
        (loops_run q acts x (spread x past first) ((alarm_leads_holds q false Probe refl (alarm_leads true false Probe)).run x past h));
  }

  -- while port q closes, it counts as one whose turn has been
  abbrev With : Port → Port → Bool → ℕ → Past → Type 0
  With q r = Standing ((q.0 == r.0) || done r)

  closes_lead : (q : Port) (own : Bool) → LeadsAll (AtPort q Probed (λ r. Rest r false)) (closes_on q own) (AtPort q Open (λ r. Rest r false))
  unfolding closes_on
  closes_lead q own = record {
    run = λ x past h.
        let row = rings own false CloseAlarm in
        let acts = row x (on_port q past) in
        let calm = (calm_rings {strange = false} {moving = true} own false CloseAlarm (λ e. refl)).calm x (on_port q past) in
        let opened : Open x (grown x (on_port q past) acts) = (alarm_leads own false CloseAlarm).run x (on_port q past) (own_of q x past h) in
        let mine : With q q false x (grown x (on_port q past) acts) = subst (λ b. Standing (b || done q) false x (grown x (on_port q past) acts))
        (sym (same_port q)) opened in
        let all = stirring_all (With q) (λ r. standing_family ((q.0 == r.0) || done r)) q (other_ports q past) row x past
        (λ r. Pick (q.0 == r.0) Probed (Rest r false)) (calm_bootless false true acts calm) (other_ranged q past) h.all
        (λ e. mine)
        (λ e. passes (unlisted q (other_ports q past) (other_others q past)) mine)
        (λ e r n has s. subst (λ b. Standing (b || done r) false x (all_aside x (on_port r past) acts)) (sym n)
        (kept_aside (rest_family r) false x (on_port r past) acts (calm_still false acts calm e) (s.no n)))
        (λ r n has s. subst (λ b. Standing (b || done r) true x (all_aside x (on_port r past) acts)) (sym n)
        (moved_aside (rest_family r) false x (on_port r past) acts calm ((rest_family r).weaken x (on_port r past) (s.no n))))
        (λ r n has. other_listed q r past n has) in
        let later = spread x past (closes_on q own x past) in
        record {
          has = h.has;
          all = λ r has. record {
            yes = λ e. subst (λ b. Standing (b || done r) false x (on_port r later)) e (all r has);
            no = λ e. subst (λ b. Standing (b || done r) false x (on_port r later)) e (all r has);
          };
        };
  }

  -- an alarm's turn
  alarm_on_leads : (q : Port) (a : Alarm) → LeadsAll (AtPort q (Around (moves_by a)) (λ r. Rest r false)) (alarm_on q a)
      (AtPort q (Around (is_probe a)) (λ r. Rest r false))
  unfolding alarm_on begins_round_on
  alarm_on_leads q Probe = probes_lead q
  alarm_on_leads q CloseAlarm = All_reading (leads_clock q) (closes_on q) (closes_lead q)
  alarm_on_leads q Round = All_reading (waits q) (begins_round_on q) (λ wait. alarm_leads_holds q wait Round refl (alarm_leads true wait Round))
  alarm_on_leads q a = alarm_leads_holds q false a refl (alarm_leads true false a)

  each_leads : (q : Port) (probed : Bool) (alarms : List Alarm) → are_probed probed alarms ≡ true →
      LeadsAll (AtPort q (Around probed) (λ r. Rest r false)) (each_on q alarms) (AtPort q Open (λ r. Rest r false))
  unfolding nothing_at_all
  each_leads q probed [] e = record { run = λ x past h. at_to q (around_open probed) x past h }
  each_leads q probed (a ∷ []) e = All_from (λ x past h. at_to q (before_turn probed a [] e) x past h)
      (All_to (λ x past h. at_to q (around_open (is_probe a)) x past h) (alarm_on_leads q a))
  each_leads q probed (a ∷ next ∷ rest) e =
      All_from (λ x past h. at_to q (before_turn probed a (next ∷ rest) e) x past h)
      (All_after (alarm_on q a) (each_on q (next ∷ rest)) (alarm_on_leads q a) (each_leads q (is_probe a) (next ∷ rest) (after_turn probed a (next ∷ rest) e)))

  -- a port's whole turn
  turn_leads : (q : Port) → LeadsAll (AtPort q Fresh (λ r. Rest r false)) (turns_on q) (AtPort q Open (λ r. Rest r false))
  unfolding turns_on alarms_on
  turn_leads q =
      All_after (on q due_sends) (alarms_on q) (on_leads Rest rest_family false q due_sends (λ x past. (calm_due_sends {strange = false} {moving = false}).calm
      x past) due_sends_lead)
      (All_from (λ x past h. at_to q (λ y now k. open_of k) x past h) (each_leads q false ALL refl))

-- the ports below k have had their turn
below : ℕ → Port → Bool
below k r = nat_lt r.0 k

lt_more : (k r : ℕ) → (k == r) ≡ false → nat_lt r k ≡ nat_lt r (k + 1)
lt_more k r n = grind (arith, n)

turns_list : (k : ℕ) (setups : List PortSetup) (x : ℕ) (past : NodePast) → k + length setups ≤ length past.ports →
    AllPorts (λ r. Standing (below k r) false) x past →
    AllPorts (λ r. Standing (below (k + length setups) r) false) x (spread x past (for_ports turns_on (ports_from k setups) x past))
unfolding for_ports nothing_at_all ◌and_then◌ below
turns_list k [] x past le all = λ r has. subst (λ n. Standing (nat_lt r.0 n) false x (on_port r past)) (omega arith) (all r has)
turns_list k (s ∷ rest) x past le all =
    let q : Port = record { 0 = k } in
    let first = turns_on q x past in
    let now = spread x past first in
    let before : AtPort q Fresh (λ r. Standing (below k r) false) x past = record {
      has = omega (arith, le);
      all = λ r has. record {
        yes = λ e. let same = eqb-true k r.0 e in subst (λ b. Standing b false x (on_port r past)) (le-ltb r.0 k (omega (arith, same))) (all r has);
        no = λ e. all r has;
      };
    } in
    let after = (turn_leads (below k) q).run x past before in
    let next : AllPorts (λ r. Standing (below (k + 1) r) false) x now = λ r has. turned k r x now (after.all r has) (k == r.0) refl in
    let more = turns_list (k + 1) rest x now (omega (arith, le)) next in
    subst (λ z. AllPorts (λ r. Standing (nat_lt r.0 (k + length (s ∷ rest))) false) x z)
    (sym (spread_append x past first (for_ports turns_on (ports_from (k + 1) rest) x now)))
    (λ r has. subst (λ n. Standing (nat_lt r.0 n) false x (on_port r (spread x now (for_ports turns_on (ports_from (k + 1) rest) x now)))) (omega arith)
    (more r has))
  where
    turned : (k : ℕ) (r : Port) (x : ℕ) (now : NodePast) → Pick (k == r.0) Open (Standing (below k r) false) x (on_port r now) → (b : Bool) → (k == r.0) ≡ b →
        Standing (below (k + 1) r) false x (on_port r now)
    turned k r x now p true e = let same = eqb-true k r.0 e in subst (λ b. Standing b false x (on_port r now)) (sym (lt-ltb r.0 (k + 1) (omega (arith, same))))
        (p.yes e)
    turned k r x now p false e = subst (λ b. Standing b false x (on_port r now)) (lt_more k r.0 e) (p.no e)

-- the turns of all ports
pub turns_lead : LeadsAll (AllPorts (λ r. Fresh)) (reading_all all_ports (for_ports turns_on)) (AllPorts (λ r. Open))
unfolding reading_all below
turns_lead = record {
  run = λ x past all.
      let turned = turns_list 0 past.ports x past (omega arith) (λ r has. subst (λ b. Standing b false x (on_port r past)) (sym (le-ltb r.0 0 (omega arith)))
      (all r has)) in
      λ r has. subst (λ b. Standing b false x (on_port r (spread x past (for_ports turns_on (ports_from 0 past.ports) x past))))
      (lt-ltb r.0 (0 + length past.ports) (omega (arith, has))) (turned r has);
}

-- acts that take first and are calm then, as another port sees them
taken_bootless : (strange moving : Bool) (from : Place) (t : Taken) (acts after : List Act) → acts ≡ Took from t ∷ after → is_calm strange moving after ≡ true →
    Bootless acts
taken_bootless strange moving from t acts after is calm = subst Bootless (sym is) ((λ e. let bad : ⊥ = cc in bad), calm_bootless strange moving after calm)

taken_kept : {stirred : Bool} (strange : Bool) (from : Place) (t : Taken) (x : ℕ) (past : Past) (acts after : List Act) → acts ≡ Took from t ∷ after →
    is_calm strange false after ≡ true → EndsIn stirred x past → EndsIn stirred x (all_aside x past acts)
taken_kept {stirred} strange from t x past acts after is calm h =
    subst (λ z. EndsIn stirred x (all_aside x past z)) (sym is) (kept_aside ends_family strange x (aside x past (Took from t)) after calm
    (rests_aside x past (Took from t) refl h.0, h.1))

taken_moved : (strange : Bool) (from : Place) (t : Taken) (x : ℕ) (past : Past) (acts after : List Act) → acts ≡ Took from t ∷ after →
    is_calm strange true after ≡ true → EndsIn true x past → EndsIn true x (all_aside x past acts)
taken_moved strange from t x past acts after is calm h =
    subst (λ z. EndsIn true x (all_aside x past z)) (sym is) (moved_aside ends_family strange x (aside x past (Took from t)) after calm
    (rests_aside x past (Took from t) refl h.0, h.1))

open_ends : (x : ℕ) (past : Past) → Open x past → Ended x past
open_ends x past h = (open_rests x past h, open_heeds x past h)

-- which rounds a message's correction ends
stirred_listed : (q r : Port) (kind : Kind) (past : NodePast) → (q.0 == r.0) ≡ false → r.0 < length past.ports → listed r (stirred_ports q kind past) ≡ true
stirred_listed q r kind past n has = by_case (sets_date kind) where
  by_case : (b : Bool) → listed r (if b then ports_from 0 past.ports else other_ports q past) ≡ true
  by_case true = listed_from r 0 past.ports (omega arith) (omega (arith, has))
  by_case false = other_listed q r past n has

stirred_own : (q : Port) (kind : Kind) (past : NodePast) → q.0 < length past.ports → sets_date kind ≡ true → listed q (stirred_ports q kind past) ≡ true
stirred_own q kind past has dates = subst (λ b. listed q (if b then ports_from 0 past.ports else other_ports q past) ≡
    true) (sym dates) (listed_from q 0 past.ports (omega arith) (omega (arith, has)))

own_still : {dates : Bool} (x : ℕ) (past : Past) (acts : List Act) → Upset dates x past acts → corrects acts ≡ false → Rests x (grown x past acts)
own_still x past acts (inl r) e = r
own_still x past acts (inr s) e = absurd (true≢false (sym s.1 ∙ e))

own_moved : {dates : Bool} (x : ℕ) (past : Past) (acts : List Act) (b : Bool) → (dates ≡ true → b ≡ true) → Upset dates x past acts →
    Heeds x (grown x past acts) → Pick b (EndsIn true) (EndsIn false) x (grown x past acts)
own_moved x past acts b k (inl r) heeds = record { yes = λ e. (rests_family.weaken x (grown x past acts) r, heeds); no = λ e. (r, heeds) }
own_moved x past acts b k (inr s) heeds = picks (k s.0) (s.2, heeds)

-- a message that is no LOOP is taken
takes_message_lead : (q : Port) (from : Place) (m : MessageValue) → LeadsAll (λ x past. (q.0 < length past.ports) ×
    AllPorts (λ r. Open) x past) (takes_message q from m) (AllPorts (λ r. Ended))
unfolding takes_message takes
takes_message_lead q from m = record {
  run = λ x past h.
      let t = Good (Message m) in
      let steer = steers q x past in
      let charge = in_charge q x past in
      let here = on_port q past in
      let acts = takes steer charge from t x here in
      let first : TakesFirst true from t (2 * length here.peers + 5) acts = (taking {moving = true} from t 2 5 (handles steer charge from t)
      (calm_handles steer charge from t)).run x here in
      let upset : Upset (sets_date m.kind) x here acts = (takes_upsets steer charge from t).run x here (h.1 q h.0) in
      let heeds = takes_heed steer charge from t x here (h.1 q h.0).own in
      let strange = is_stranger from in
      stirring_all (λ r. EndsIn) (λ r. ends_family) q (stirred_ports q m.kind past) (takes steer charge from t) x past (λ r. Open)
      (taken_bootless strange true from t acts first.after first.is first.calm) (listed_ranged past (StirredPorts q m.kind)) h.1
      (λ e. (own_still x here acts upset e, heeds))
      (λ e. own_moved x here acts (listed q (stirred_ports q m.kind past)) (stirred_own q m.kind past h.0) upset heeds)
      (λ e r n has s. taken_kept strange from t x (on_port r past) acts first.after first.is
      (calm_still strange first.after first.calm (sym (ap corrects first.is) ∙ e)) (open_ends x (on_port r past) s))
      (λ r n has s. taken_moved strange from t x (on_port r past) acts first.after first.is first.calm
      (ends_family.weaken x (on_port r past) (open_ends x (on_port r past) s)))
      (λ r n has. stirred_listed q r m.kind past n has);
}

no_date : (t : Taken) → is_message t ≡ false → dates_by t ≡ false
no_date (Good (Message m)) e = absurd (true≢false e)
no_date _ e = refl

-- a stamp, or octets that are no datagram
takes_stamp_lead : (q : Port) (from : Place) (t : Taken) → is_message t ≡ false →
    LeadsAll (λ x past. (q.0 < length past.ports) × AllPorts (λ r. Open) x past) (on q (takes true true from t)) (AllPorts (λ r. Ended))
unfolding on takes
takes_stamp_lead q from t none = record {
  run = λ x past h.
      let here = on_port q past in
      let acts = takes true true from t x here in
      let first : TakesFirst false from t (2 * length here.peers + 5) acts = (taking {moving = false} from t 2 5 (handles true true from t)
      (calm_stamps true true from t none)).run x here in
      let own : Rests x (grown x here acts) = (upsets_never (subst (λ b. Upsets b Open (takes true true from t)) (no_date t none)
      (takes_upsets true true from t))).run x here (h.1 q h.0) in
      let strange = is_stranger from in
      placed_all q x past acts (λ r. Open) (λ r. Ended) (taken_bootless strange false from t acts first.after first.is first.calm) (
        own,
        takes_heed true true from t x here (h.1 q h.0).own,
      )
      (λ r n has s. taken_kept strange from t x (on_port r past) acts first.after first.is first.calm (open_ends x (on_port r past) s)) h.1;
}

takes_kind_lead : (q : Port) (from : Place) (m : MessageValue) (k : Kind) → m.kind ≡ k →
    LeadsAll (λ x past. (q.0 < length past.ports) × AllPorts (λ r. Open) x past) (takes_kind q from m k) (AllPorts (λ r. Ended))
unfolding takes_kind
takes_kind_lead q from m LoopKind e = takes_loop_lead q from m e
takes_kind_lead q from m _ e = takes_message_lead q from m

takes_on_lead : (q : Port) (from : Place) (t : Taken) → LeadsAll (λ x past. (q.0 < length past.ports) × AllPorts (λ r. Open) x past) (takes_on q from t)
    (AllPorts (λ r. Ended))
unfolding takes_on
takes_on_lead q from (Good (Message m)) = takes_kind_lead q from m m.kind refl
takes_on_lead q from (Good (Stamp z)) = takes_stamp_lead q from (Good (Stamp z)) refl
takes_on_lead q from (Bad fault) = takes_stamp_lead q from (Bad fault) refl

-- what is given comes on a port that the node has
abbrev pub GivenOn : NodeGiven → NodePast → Type 0
GivenOn NodeTurn past = Unit {0}
GivenOn (GotOn q from t) past = q.0 < length past.ports

input_lead : (g : NodeGiven) → LeadsAll (λ x past. GivenOn g past × AllPorts (λ r. Open) x past) (input_all g) (AllPorts (λ r. Ended))
unfolding input_all nothing_at_all
input_lead NodeTurn = record { run = λ x past h r has. open_ends x (on_port r past) (h.1 r has) }
input_lead (GotOn q from t) = takes_on_lead q from t

given_kept : (g : NodeGiven) (x : ℕ) (past : NodePast) → GivenOn g past → GivenOn g (spread x past (reading_all all_ports (for_ports turns_on) x past))
given_kept NodeTurn x past h = tt
given_kept (GotOn q from t) x past h = h

-- what a node answers over its ports
pub answers_all_lead : (g : NodeGiven) → LeadsAll (λ x past. GivenOn g past × AllPorts (λ r. Fresh) x past) (answers_all g) (AllPorts (λ r. Ended))
unfolding answers_all
answers_all_lead g = All_after {Q = λ x past. GivenOn g past × AllPorts (λ r. Open) x past} (reading_all all_ports (for_ports turns_on)) (input_all g)
    (record { run = λ x past h. (given_kept g x past h.0, turns_lead.run x past h.1) }) (input_lead g)
