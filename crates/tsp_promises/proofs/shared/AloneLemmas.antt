-- A node with one port and that port alone, row by row.
use Rattle.std.proofs.Common.{sym, subst, ap, ◌∙◌, arith, inl, inr, true≢false, append-nil, ◌≡◌, ℕ, ◌==◌, nat_lt, ◌&&◌, ◌||◌, not, Bool, true, false}
use Rattle.std.proofs.Common.{if◌then◌else◌, List, [], ◌∷◌, ◌++◌, length, filter, Option, None, Some, is_some, refl}
use Rattle.std.proofs.{lemmas.Bool.and_right, Math.Bool.and-true, Math.Bool.or-false}
use Rattle.tsp_rules.specs.Values.{Act, Boot, Took, Become, Abandon, Placed, Alarm, Quiet, Round, Probe, CloseAlarm, Message, Stamp, Taken, Good, Bad, Kind}
use Rattle.tsp_rules.specs.Values.{LoopKind, Place, Port, Role, Starting, Master, ALL, QUIET}
use Rattle.tsp_rules.specs.Answers.{answers, due_alarms, input_row, rings, rings_alone, rings_each, alarm_rings, takes, handles, handles_kind, is_left}
use Rattle.tsp_rules.specs.CommonRows.{boots}
use Rattle.tsp_rules.{specs.SendRows.due_sends, proofs.CalmAlarms.moves_by, proofs.CalmSteps.is_message, proofs.NodeRowLemmas.on_own}
use Rattle.tsp_rules.specs.GateRows.{NodeGiven, NodeTurn, GotOn, is_probe, alarm_on, each_on, alarms_on, all_ports, answers_all, any_port, begins_round_on}
use Rattle.tsp_rules.specs.GateRows.{boots_all, boots_on, closes_on, ends_probes, follows_on, goes_on, has_rung, hears_on, heeds_loop, in_charge, input_all}
use Rattle.tsp_rules.specs.GateRows.{is_last_probe, judge, judges, leads_clock, leads_on, loops_after, lower_ports, other_ports, ports_from, probes_on, steers}
use Rattle.tsp_rules.specs.GateRows.{stirred_ports, takes_kind, takes_loop, takes_loop_step, takes_message, takes_on, turns_on}
use Rattle.tsp_rules.specs.NodeRows.{NodePast, NodeRow, PortSetup, abandons_on, for_ports, nothing_at_all, on, on_port, ◌and_then◌, reading_all, spread}
use Rattle.tsp_rules.specs.NodeRows.{stirring}
use Rattle.tsp_rules.specs.RoundRows.{abandons, abandons_going, close_rings, corrects, upsetting}
use Rattle.tsp_rules.specs.Guards.{is_due, is_follow, is_going_at, is_over, is_own}
use Rattle.tsp_base.specs.Words.{Past, view, first_port, Leads, MessageValue, armed, role, is_going, Row, grown, arms, placed, nothing, puts, ◌followed_by◌}
use Rattle.tsp_base.specs.Words.{either_by, is_correction, sets_date}
use Rattle.tsp_base.proofs.{LeadsLemmas.Leads_from, LeadsLemmas.Leads_then, RowLemmas.then_assoc}
use Rattle.tsp_promises.proofs.leads.AlarmTable.{Around, after_turn, alarm_leads, are_probed, around_open, before_turn, due_alarms_lead}
use Rattle.tsp_promises.{proofs.leads.AnswerLeads.takes_upsets, specs.Alone.given_alone, specs.NodeRuns.NodeAnswers, specs.NodeRuns.IsGivenOn}
use Rattle.tsp_promises.proofs.{leads.CorrectionLeads.due_sends_lead, leads.Changes.open_of, shared.SteadyLemmas.steady_takes, shared.SteadyLemmas.still_takes}
use Rattle.tsp_promises.proofs.leads.Known.{Fresh, Open, Rests}

-- the past of the only port
abbrev pub alone : NodePast → Past
alone past = on_port first_port past

-- where this is known of the only port, the node's row is the port's
pub record Same (C : ℕ → Past → Type 0) (row : NodeRow) (r : Row) : Type 0 where
  pub run : (x : ℕ) (past : NodePast) (s : PortSetup) → past.ports ≡ s ∷ [] → C x (alone past) → row x past ≡ placed first_port (r x (alone past))

placed_append : (xs ys : List Act) → placed first_port (xs ++ ys) ≡ placed first_port xs ++ placed first_port ys
placed_append [] ys = refl
placed_append (a ∷ xs) ys = ap (λ (ps : List Placed). record { port = first_port; act = a } ∷ ps) (placed_append xs ys)

-- one row after the other
same_then : {C D : ℕ → Past → Type 0} (row more : NodeRow) (r s : Row) → Same C row r → Leads C r D → Same D more s →
    Same C (row and_then more) (r followed_by s)
unfolding ◌and_then◌ ◌followed_by◌
same_then {D = D} row more r s a l b = record {
  run = λ x past setup one c.
      let acts = r x (alone past) in
      let mid = spread x past (placed first_port acts) in
      let after : alone mid ≡ grown x (alone past) acts = on_own first_port x past acts in
      let known : D x (alone mid) = subst (λ z. D x z) (sym after) (l.run x (alone past) c) in
      ap (λ ps. ps ++ more x (spread x past ps)) (a.run x past setup one c)
      ∙ ap (λ ps. placed first_port acts ++ ps) (b.run x mid setup one known ∙ ap (λ z. placed first_port (s x z)) after)
      ∙ sym (placed_append acts (s x (grown x (alone past) acts)));
}

same_from : {C D : ℕ → Past → Type 0} (row : NodeRow) (r : Row) → ((x : ℕ) (past : Past) → C x past → D x past) → Same D row r → Same C row r
same_from row r k a = record { run = λ x past s one c. a.run x past s one (k x (alone past) c) }

-- a row of the port
same_on : {C : ℕ → Past → Type 0} (r : Row) → Same C (on first_port r) r
unfolding on
same_on r = record { run = λ x past s one c. refl }

-- there is no other port
only : (past : NodePast) (s : PortSetup) → past.ports ≡ s ∷ [] → ports_from 0 past.ports ≡ first_port ∷ []
only past s one = ap (λ ps. ports_from 0 ps) one

none_other : (past : NodePast) (s : PortSetup) → past.ports ≡ s ∷ [] → other_ports first_port past ≡ []
none_other past s one = ap (λ ps. filter (λ (r : Port). not (r.0 == 0)) (ports_from 0 ps)) one

none_lower : (past : NodePast) (s : PortSetup) → past.ports ≡ s ∷ [] → lower_ports first_port past ≡ []
none_lower past s one = ap (λ ps. filter (λ (r : Port). nat_lt r.0 0) (ports_from 0 ps)) one

-- the port leads the clock where it doesn't follow, and steers it where it does
leads_alone : (x : ℕ) (past : NodePast) (s : PortSetup) → past.ports ≡ s ∷ [] → leads_clock first_port x past ≡ not (follows_on past first_port)
leads_alone x past s one =
    ap (λ ps. not (any_port (follows_on past) ps) && not (any_port (leads_on past) (lower_ports first_port past))) (only past s one)
    ∙ ap (λ ps. not (follows_on past first_port || false) && not (any_port (leads_on past) ps)) (none_lower past s one)
    ∙ and-true (not (follows_on past first_port || false))
    ∙ ap (λ b. not b) (or-false (follows_on past first_port))

steers_alone : (x : ℕ) (past : NodePast) (s : PortSetup) → past.ports ≡ s ∷ [] → steers first_port x past ≡ follows_on past first_port
steers_alone x past s one =
    ap (λ ps. follows_on past first_port && not (any_port (follows_on past) ps)) (none_lower past s one) ∙ and-true (follows_on past first_port)

charge_alone : (x : ℕ) (past : NodePast) (s : PortSetup) → past.ports ≡ s ∷ [] → in_charge first_port x past ≡ true
charge_alone x past s one = ap (λ b. b || leads_clock first_port x past) (steers_alone x past s one) ∙
    ap (λ b. follows_on past first_port || b) (leads_alone x past s one) ∙ excluded (follows_on past first_port) where
      excluded : (b : Bool) → (b || not b) ≡ true
      excluded true = refl
      excluded false = refl

-- no port's round is given up where there is none
given_up_none : (b : Bool) (x : ℕ) (past : NodePast) → (if b then for_ports abandons_on [] x past else []) ≡ []
unfolding for_ports nothing_at_all
given_up_none true x past = refl
given_up_none false x past = refl

-- a probe sends no LOOPs
same_probe : Same Open (alarm_on first_port Probe) (rings true false Probe)
unfolding alarm_on probes_on ◌and_then◌ loops_after on
same_probe = record {
  run = λ x past s one c.
      let acts = rings true false Probe x (alone past) in
      let after = on_port first_port (spread x past (placed first_port acts)) in
      let few : ends_probes acts after past.ports ≡ false = ap (λ ps. ends_probes acts after ps) one ∙
      ap (λ b. has_rung acts && b) (and_right (is_last_probe after) false refl) ∙ and_right (has_rung acts) false refl in
      rw few (append-nil (placed first_port acts));
}

-- a round goes on only at a master
leads_round : (x : ℕ) (past : Past) → Open x past → is_due CloseAlarm x past ≡ true → role past.seen ≡ Master
leads_round x past h due = by_close (armed past.seen).close refl due where
  by_close : (o : Option ℕ) → (armed past.seen).close ≡ o → is_over o x ≡ true → role past.seen ≡ Master
  by_close None e over = absurd (true≢false (sym over))
  by_close (Some at) e over = (h.knows.round.closes refl at e).leads

closes_alone : (x : ℕ) (past : Past) (own : Bool) → Open x past → own ≡ not (is_follow (role past.seen)) → rings own false CloseAlarm x past ≡
    rings true false CloseAlarm x past
unfolding rings either_by alarm_rings
closes_alone x past own h e = by_due (is_due CloseAlarm x past) refl where
  by_due : (b : Bool) → is_due CloseAlarm x past ≡ b → (if b then close_rings own x past else nothing x past) ≡
      (if b then close_rings true x past else nothing x past)
  by_due true due = ap (λ own. close_rings own x past) (e ∙ ap (λ (r : Role). not (is_follow r)) (leads_round x past h due))
  by_due false due = refl

same_close : Same Open (alarm_on first_port CloseAlarm) (rings true false CloseAlarm)
unfolding alarm_on reading_all closes_on stirring on
same_close = record {
  run = λ x past s one c.
      let own = leads_clock first_port x past in
      let acts = rings own false CloseAlarm x (alone past) in
      let mid = spread x past (placed first_port acts) in
      ap (λ ports. placed first_port acts ++ (if corrects acts then for_ports abandons_on ports x mid else [])) (none_other past s one)
      ∙ ap (λ ps. placed first_port acts ++ ps) (given_up_none (corrects acts) x mid)
      ∙ append-nil (placed first_port acts)
      ∙ ap (λ zs. placed first_port zs) (closes_alone x (alone past) own c (leads_alone x past s one));
}

-- no round waits for another port's
same_round : Same Open (alarm_on first_port Round) (rings true false Round)
unfolding alarm_on reading_all begins_round_on on
same_round = record {
  run = λ x past s one c. ap (λ ports. placed first_port (rings true (any_port (goes_on past) ports) Round x (alone past))) (none_other past s one);
}

-- an alarm's turn
same_alarm : (a : Alarm) → Same (Around (moves_by a)) (alarm_on first_port a) (rings_alone a)
unfolding alarm_on rings_alone
same_alarm Probe = same_probe
same_alarm CloseAlarm = same_from (alarm_on first_port CloseAlarm) (rings true false CloseAlarm) (around_open true) same_close
same_alarm Round = same_round
same_alarm a = same_on (rings true false a)

same_each : (probed : Bool) (alarms : List Alarm) → are_probed probed alarms ≡ true → Same (Around probed) (each_on first_port alarms) (rings_each alarms)
unfolding nothing_at_all nothing rings_alone
same_each probed [] e = record { run = λ x past s one c. refl }
same_each probed (a ∷ []) e = same_from (alarm_on first_port a) (rings_alone a) (before_turn probed a [] e) (same_alarm a)
same_each probed (a ∷ next ∷ rest) e =
    same_from (each_on first_port (a ∷ next ∷ rest)) (rings_each (a ∷ next ∷ rest)) (before_turn probed a (next ∷ rest) e)
    (same_then (alarm_on first_port a) (each_on first_port (next ∷ rest)) (rings_alone a) (rings_each (next ∷ rest)) (same_alarm a) (alarm_leads true false a)
    (same_each (is_probe a) (next ∷ rest) (after_turn probed a (next ∷ rest) e)))

same_alarms : Same Open (alarms_on first_port) due_alarms
unfolding alarms_on due_alarms
same_alarms = same_each false ALL refl

same_turns : Same Fresh (turns_on first_port) (due_sends followed_by due_alarms)
unfolding turns_on
same_turns = same_then (on first_port due_sends) (alarms_on first_port) due_sends due_alarms (same_on due_sends) due_sends_lead
    (same_from (alarms_on first_port) due_alarms (λ x past h. open_of h) same_alarms)

-- what goes through all ports goes through the only one
each_alone : {C : ℕ → Past → Type 0} (rows : Port → NodeRow) (r : Row) → Same C (rows first_port) r → Same C (reading_all all_ports (for_ports rows)) r
unfolding reading_all for_ports ◌and_then◌ nothing_at_all
each_alone rows r a =
    record { run = λ x past s one c. ap (λ ports. for_ports rows ports x past) (only past s one) ∙ append-nil (rows first_port x past) ∙ a.run x past s one c }

-- a correction isn't passed over: who follows steers the clock
never_left : (f c : Bool) → (not f && (c && f)) ≡ false
never_left true c = refl
never_left false c = and_right c false refl

takes_alone : (from : Place) (m : MessageValue) (steer charge : Bool) (x : ℕ) (past : Past) → steer ≡ is_follow (role past.seen) → charge ≡ true →
    takes steer charge from (Good (Message m)) x past ≡ takes true true from (Good (Message m)) x past
unfolding takes handles either_by ◌followed_by◌ puts
takes_alone from m steer charge x past s c =
    let next = grown x past (Took from (Good (Message m)) ∷ []) in
    let acts : Bool → Bool → List Act = λ left ch. (Took from (Good (Message m)) ∷ []) ++
    (if is_own from x next then nothing x next else (if left then nothing x next else handles_kind ch from m m.kind x next)) in
    let left : is_left steer m.kind x next ≡ false = ap (λ b. not b && (is_correction m.kind && is_follow (role past.seen))) s ∙
    never_left (is_follow (role past.seen)) (is_correction m.kind) in
    ap (λ b. acts b charge) left ∙ ap (λ b. acts false b) c

-- a round that goes on is given up alike
gives_up_holds : (x : ℕ) (past : NodePast) → abandons_on first_port x past ≡ placed first_port (abandons_going x (alone past))
unfolding abandons_on abandons_going either_by abandons puts nothing
gives_up_holds x past = by_going (is_going (view first_port past.lines)) where
  by_going : (b : Bool) → (if b then record { port = first_port; act = Abandon } ∷ [] else []) ≡ placed first_port (if b then Abandon ∷ [] else [])
  by_going true = refl
  by_going false = refl

-- a follower has no round
no_round : (x : ℕ) (past : Past) → Rests x past → is_follow (role past.seen) ≡ true → is_going past.seen ≡ false
no_round x past h follows = by_close (armed past.seen).close refl where
  by_close : (o : Option ℕ) → (armed past.seen).close ≡ o → is_some o ≡ false
  by_close None e = refl
  by_close (Some at) e = absurd (true≢false (sym follows ∙ ap (λ (r : Role). is_follow r) (h.knows.round.closes refl at e).leads))

module _ (from : Place) (m : MessageValue) where
  -- what corrects the clock and is no date finds no round that goes on
  none_going : (x : ℕ) (past : Past) → Open x past → corrects (takes true true from (Good (Message m)) x past) ≡ true → sets_date m.kind ≡ false →
      abandons_going x (grown x past (takes true true from (Good (Message m)) x past)) ≡ []
  unfolding abandons_going either_by nothing
  none_going x past h e d =
      let acts = takes true true from (Good (Message m)) x past in
      let follows : is_follow (role (grown x past acts).seen) ≡ true = elim ((steady_takes from m d).run x past tt) [
        | inl still ↦
            absurd (true≢false (sym e ∙ still))
        | inr f ↦ f
      ] in
      let rests : Rests x (grown x past acts) = elim ((takes_upsets true true from (Good (Message m))).run x past h) [
        | inl r ↦ r
        | inr s ↦
            absurd (true≢false (sym s.0 ∙ d))
      ] in
      let idle : is_going_at x (grown x past acts) ≡ false = no_round x (grown x past acts) rests follows in
      ap (λ b. if b then abandons x (grown x past acts) else []) idle

  ends_alike : (x : ℕ) (past : NodePast) (s : PortSetup) → past.ports ≡ s ∷ [] → Open x (alone past) →
      corrects (takes true true from (Good (Message m)) x (alone past)) ≡ true → (d : Bool) → sets_date m.kind ≡ d →
      for_ports abandons_on (if d then ports_from 0 past.ports else other_ports first_port past) x
      (spread x past (placed first_port (takes true true from (Good (Message m)) x (alone past))))
      ≡ placed first_port (abandons_going x (grown x (alone past) (takes true true from (Good (Message m)) x (alone past))))
  unfolding for_ports ◌and_then◌ nothing_at_all
  ends_alike x past s one h e true d =
      let acts = takes true true from (Good (Message m)) x (alone past) in
      let mid = spread x past (placed first_port acts) in
      ap (λ ports. for_ports abandons_on ports x mid) (only past s one)
      ∙ append-nil (abandons_on first_port x mid)
      ∙ gives_up_holds x mid
      ∙ ap (λ z. placed first_port (abandons_going x z)) (on_own first_port x past acts)
  ends_alike x past s one h e false d =
      let acts = takes true true from (Good (Message m)) x (alone past) in
      let mid = spread x past (placed first_port acts) in
      ap (λ ports. for_ports abandons_on ports x mid) (none_other past s one) ∙ sym (ap (λ zs. placed first_port zs) (none_going x (alone past) h e d))

  same_message : Same Open (takes_message first_port from m) (upsetting (takes true true from (Good (Message m))))
  unfolding takes_message stirring upsetting on
  same_message = record {
    run = λ x past s one c.
        let acts = takes true true from (Good (Message m)) x (alone past) in
        let after = abandons_going x (grown x (alone past) acts) in
        let same = takes_alone from m (steers first_port x past) (in_charge first_port x past) x (alone past) (steers_alone x past s one)
        (charge_alone x past s one) in
        ap (λ zs. placed first_port zs ++ (if corrects zs then for_ports abandons_on (stirred_ports first_port m.kind past) x
        (spread x past (placed first_port zs)) else [])) same
        ∙ ap (λ ps. placed first_port acts ++ ps) (by_moved x past s one c (corrects acts) refl)
        ∙ sym (placed_append acts (if corrects acts then after else []));
  } where
    by_moved : (x : ℕ) (past : NodePast) (s : PortSetup) → past.ports ≡ s ∷ [] → Open x (alone past) → (b : Bool) →
        corrects (takes true true from (Good (Message m)) x (alone past)) ≡ b →
        (if b then for_ports abandons_on (stirred_ports first_port m.kind past) x
        (spread x past (placed first_port (takes true true from (Good (Message m)) x (alone past)))) else [])
        ≡ placed first_port (if b then abandons_going x (grown x (alone past) (takes true true from (Good (Message m)) x (alone past))) else [])
    by_moved x past s one h true e = ends_alike x past s one h e (sets_date m.kind) refl
    by_moved x past s one h false e = refl

  -- a LOOP is passed over
  heeds_none : (b : Bool) (x : ℕ) (past : NodePast) (s : PortSetup) → past.ports ≡ s ∷ [] → heeds_loop first_port m b x past ≡ []
  unfolding heeds_loop judges takes_loop_step nothing_at_all
  heeds_none true x past s one = ap (λ (ps : List PortSetup). takes_loop_step first_port (judge past.name (length ps) first_port m) x past) one
  heeds_none false x past s one = refl

  handles_none : (x : ℕ) (past : Past) → m.kind ≡ LoopKind → handles true true from (Good (Message m)) x past ≡ []
  unfolding handles either_by handles_kind nothing
  handles_none x past e = ap (λ k. handles_kind true from m k x past) e

  loop_acts : (x : ℕ) (past : Past) → m.kind ≡ LoopKind → takes true true from (Good (Message m)) x past ≡ Took from (Good (Message m)) ∷ []
  unfolding takes either_by ◌followed_by◌ puts nothing
  loop_acts x past e =
      let next = grown x past (Took from (Good (Message m)) ∷ []) in
      let none : (if is_own from x next then [] else handles true true from (Good (Message m)) x next) ≡ [] =
      ap (λ zs. if is_own from x next then [] else zs) (handles_none x next e) ∙ either (is_own from x next) in
      ap (λ zs. (Took from (Good (Message m)) ∷ []) ++ zs) none
    where
      no_acts : List Act
      no_acts = []

      either : (b : Bool) → (if b then no_acts else no_acts) ≡ no_acts
      either true = refl
      either false = refl

  same_loop : m.kind ≡ LoopKind → Same Open (takes_loop first_port from m) (upsetting (takes true true from (Good (Message m))))
  unfolding takes_loop ◌and_then◌ reading_all upsetting puts on
  same_loop e = record {
    run = λ x past s one c.
        let took = Took from (Good (Message m)) ∷ [] in
        let mid = spread x past (placed first_port took) in
        ap (λ ps. placed first_port took ++ ps) (heeds_none (hears_on from first_port x mid) x mid s one)
        ∙ sym (ap (λ zs. placed first_port (zs ++ (if corrects zs then abandons_going x (grown x (alone past) zs) else []))) (loop_acts x (alone past) e));
  }

  same_kind : (k : Kind) → m.kind ≡ k → Same Open (takes_kind first_port from m k) (upsetting (takes true true from (Good (Message m))))
  unfolding takes_kind
  same_kind LoopKind e = same_loop e
  same_kind _ e = same_message

-- what is no message
same_still : (from : Place) (t : Taken) → is_message t ≡ false → Same Open (on first_port (takes true true from t)) (upsetting (takes true true from t))
unfolding on upsetting
same_still from t e = record {
  run = λ x past s one c.
      let acts = takes true true from t x (alone past) in
      let after = abandons_going x (grown x (alone past) acts) in
      sym (ap (λ b. placed first_port (acts ++ (if b then after else []))) ((still_takes from t e).run x (alone past)) ∙
      ap (λ zs. placed first_port zs) (append-nil acts));
}

same_taken : (from : Place) (t : Taken) → Same Open (takes_on first_port from t) (upsetting (takes true true from t))
unfolding takes_on
same_taken from (Good (Message m)) = same_kind from m m.kind refl
same_taken from (Good (Stamp s)) = same_still from (Good (Stamp s)) refl
same_taken from (Bad fault) = same_still from (Bad fault) refl

-- what is given comes on the only port
same_input : (g : NodeGiven) → IsGivenOn 1 (NodeAnswers g) → Same Open (input_all g) (input_row (given_alone g))
unfolding input_all input_row nothing_at_all nothing
same_input NodeTurn here = record { run = λ x past s one c. refl }
same_input (GotOn q from t) here =
    let zero : q.0 ≡ 0 = omega (arith, here) in
    let first : first_port ≡ q = ap (λ n. let r : Port = record { 0 = n } in r) (sym zero) in
    subst (λ r. Same Open (takes_on r from t) (upsetting (takes true true from t))) first (same_taken from t)

-- a step
pub same_answers : (g : NodeGiven) → IsGivenOn 1 (NodeAnswers g) → Same Fresh (answers_all g) (answers (given_alone g))
unfolding answers_all answers
same_answers g here = record {
  run = λ x past s one c.
      let row = input_row (given_alone g) in
      let parts =
      (same_then (reading_all all_ports (for_ports turns_on)) (input_all g) (due_sends followed_by due_alarms) row
      (each_alone turns_on (due_sends followed_by due_alarms) same_turns)
      (Leads_then due_sends due_alarms due_sends_lead (Leads_from (λ y z h. open_of h) due_alarms_lead)) (same_input g here)).run x past s one c in
      parts ∙ ap (λ zs. placed first_port zs) (then_assoc due_sends due_alarms row x (alone past));
}

boots_on_holds : {C : ℕ → Past → Type 0} → Same C (boots_on first_port) (puts (Become Starting) followed_by arms Quiet QUIET)
unfolding boots_on on
boots_on_holds = record { run = λ x past s one c. refl }

-- a boot
pub same_boots : Same (λ x past. Unit {0}) boots_all boots
unfolding boots_all boots
same_boots =
    same_then {D = λ x past. Unit {0}} (on first_port (puts Boot)) (reading_all all_ports (for_ports boots_on)) (puts Boot)
    (puts (Become Starting) followed_by arms Quiet QUIET) (same_on (puts Boot)) (record { run = λ x past c. tt {0} })
    (each_alone boots_on (puts (Become Starting) followed_by arms Quiet QUIET) boots_on_holds)
