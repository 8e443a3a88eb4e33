-- Each step of a node leads from lines in which each arming of Resolve asks all peers to lines in which it does.
use Rattle.std.proofs.Common.{sym, ap, subst, true≢false, ◌∙◌, ◌≡◌, ◌⊎◌, inl, inr, ℕ, ◌+◌, Bool, true, false, if◌then◌else◌, List, [], ◌∷◌, ◌++◌, length}
use Rattle.std.proofs.Common.{eqb-true, eq-eqb, ◌==◌, map, Option, None, Some, is_some, slice_get, refl}
use Rattle.tsp_rules.specs.Values.{Act, Boot, Took, Become, Arm, Abandon, Alarm, Quiet, Round, Probe, CloseAlarm, Message, Stamp, Taken, Good, Bad}
use Rattle.tsp_rules.specs.Values.{Request, Reply, Kind, LoopKind, ResolveKind, PeerId, Place, Placed, Port, Starting, ResolveAlarm, ALL, QUIET, WINDOW}
use Rattle.tsp_rules.specs.Values.{Event, BootAt, Turn, Take, Bytes}
use Rattle.tsp_base.specs.Words.{Acts, Begins, Deed, HeaderValue, Handed, Line, MessageValue, Past, Row, Step, Turned, Came, Within, armed, arms, first_port}
use Rattle.tsp_base.specs.Words.{grown, is_going, joined, line_of, of, others, placed, post_of, puts, stepped, view, ◌followed_by◌}
use Rattle.tsp_codec.specs.{Taken.taken_of}
use Rattle.tsp_base.proofs.PlaceLemmas.{Within_all}
use Rattle.tsp_rules.specs.{Answers.rings, Answers.takes, RoundRows.corrects, SendRows.due_sends}
use Rattle.tsp_rules.specs.GateRows.{GotOn, NodeGiven, NodeTurn, all_ports, alarm_on, alarms_on, answers_all, begins_round_on, boots_all, boots_on, closes_on}
use Rattle.tsp_rules.specs.GateRows.{each_on, ends_probes, forwards, hears_on, heeds_loop, in_charge, input_all, is_awake_on, judge, judges, leads_clock}
use Rattle.tsp_rules.specs.GateRows.{loops_after, loosens_master, other_ports, probes_on, reposts, reposts_on, sends_loops, steers, stirred_ports}
use Rattle.tsp_rules.specs.GateRows.{takes_kind, takes_loop, takes_loop_step, takes_message, takes_on, turns_on, waits, LoopStep, PassOver, GiveUp, Forward}
use Rattle.tsp_rules.specs.NodeRows.{NodePast, NodeRow, abandons_on, for_ports, in_node_step, nothing_at_all, on, on_port, reading_all, spread, stirring}
use Rattle.tsp_rules.specs.NodeRows.{◌and_then◌}
use Rattle.tsp_rules.proofs.NodeRowLemmas.{joined_append, on_own, spread_append}
use Rattle.tsp_promises.proofs.leads.GateSteps.{All_after, LeadsAll}
use Rattle.tsp_run.specs.{Networks.networks, Run.arrives, Run.joins, Run.posts, Setup.past_of, declared.arrival.Arrival.Arrival}
use Rattle.tsp_run.specs.Clocked.{Clocks, boot_by, clocks_of, happening_by, reaches_by, run_by, steps_by, tick_by}
use Rattle.tsp_run.proofs.{OwnClocks.runs_by_own_clocks, RunLemmas.stepped_other, RunLemmas.stepped_own}
use Rattle.tsp_progress.specs.{ByTable.node_in, ByTable.set_up}
use Rattle.tsp_progress.specs.Resolving.{AllAsk, AsksAll, AsksAt, ClockedRunsAskRivals, RunsAskRivals, questions, resolve_acts}
use Rattle.tsp_progress.proofs.{AskAlarms.rung, AskAlarms.started}
use Rattle.tsp_progress.proofs.AskRows.{AsksLast, Clear, Clear_puts, FairActs, Unasked, arms_resolve, looped, loosened, repeated, reposted, taking}
use Rattle.tsp_progress.proofs.TableRows.{within_joined}
use Rattle.tsp_progress.proofs.WorldPlaces.{placed_append}

-- the node's lines do
abbrev pub Asking : ℕ → NodePast → Type 0
Asking x past = AsksAll (set_up past) past.lines

-- none of these acts arms Resolve
abbrev AllUnasked : List Placed → Type 0
AllUnasked [] = Unit {0}
AllUnasked (p ∷ rest) = (arms_resolve p.act ≡ false) × AllUnasked rest

all_append : (ps qs : List Placed) → AllUnasked ps → AllUnasked qs → AllUnasked (ps ++ qs)
all_append [] qs p q = q
all_append (a ∷ ps) qs p q = (p.0, all_append ps qs p.1 q)

placed_free : (q : Port) (acts : List Act) → Unasked acts → AllUnasked (placed q acts)
placed_free q [] u = tt
placed_free q (a ∷ rest) u = (u.0, placed_free q rest u.1)

abbrev arms_by : Deed → Bool
arms_by Begins = false
arms_by (Acts a) = arms_resolve a

abbrev arms_in : List Line → Bool
arms_in [] = false
arms_in (l ∷ rest) = arms_by l.did.deed

-- what is asked of a line that arms it
abbrev ArmsAt : NodePast → Line → List Line → List Line → Type 0
ArmsAt node l older lines = arms_by l.did.deed ≡ true → AsksAt node l older lines

abbrev ArmsAll : NodePast → List Line → Type 0
ArmsAll node lines = (l : Line) (older : List Line) → Within (l ∷ older) lines → ArmsAt node l older lines

by_deed_holds : (deed : Deed) (at : ℕ) → deed ≡ Acts (Arm ResolveAlarm at) → arms_by deed ≡ true
by_deed_holds deed at e = ap arms_by e

arm_of : (a : Alarm) (at : ℕ) → arms_by (Acts (Arm a at)) ≡ true → a ≡ ResolveAlarm
arm_of ResolveAlarm at e = refl
arm_of _ at e = absurd (true≢false (sym e))

deed_of : (deed : Deed) → arms_by deed ≡ true → (at : ℕ) × (deed ≡ Acts (Arm ResolveAlarm at))
deed_of (Acts (Arm a at)) e = (at, ap (λ b. Acts (Arm b at)) (arm_of a at e))
deed_of _ e = absurd (true≢false (sym e))

to_arms : (node : NodePast) (lines : List Line) → AsksAll node lines → ArmsAll node lines
to_arms node lines k l older w e = let d = deed_of l.did.deed e in k l older d.0 w d.1

from_arms : (node : NodePast) (lines : List Line) → ArmsAll node lines → AsksAll node lines
from_arms node lines k l older at w e = k l older w (by_deed_holds l.did.deed at e)

-- in more lines
asks_more : (node : NodePast) (l : Line) (older lines more : List Line) → ((s : List Line) → Within s lines → Within s more) → ArmsAt node l older lines →
    ArmsAt node l older more
asks_more node l older lines more k a e = let h = a e in record { unarmed = h.unarmed; asks = k _ h.asks }

-- a line is among these acts, or before them
split : (step : Step) (x : ℕ) (acts : List Placed) (h : List Line) (l : Line) (older : List Line) → AllUnasked acts →
    Within (l ∷ older) (joined step x acts h) →
    (arms_by l.did.deed ≡ false) ⊎ Within (l ∷ older) h
split step x [] h l older u w = inr w
split step x (p ∷ rest) h l older u w = elim (split step x rest (line_of step x p.port (Acts p.act) ∷ h) l older u.1 w) [
  | inl e ↦ inl e
  | inr v ↦ elim v [
    | inl e ↦ inl (ap arms_in e ∙ u.0)
    | inr v ↦ inr v
  ]
]

unarmed_asks : {A : Type 0} (deed : Deed) → arms_by deed ≡ false → arms_by deed ≡ true → A
unarmed_asks deed none e = absurd (true≢false (sym e ∙ none))

keeps_free : (node : NodePast) (step : Step) (x : ℕ) (acts : List Placed) (h : List Line) → AllUnasked acts → AsksAll node h →
    AsksAll node (joined step x acts h)
keeps_free node step x acts h u k = from_arms node (joined step x acts h) (λ l older w. elim (split step x acts h l older u w) [
  | inl e ↦ (λ arms_it. unarmed_asks l.did.deed e arms_it)
  | inr v ↦ asks_more node l older h (joined step x acts h) (λ s q. within_joined step x acts h s q) (to_arms node h k l older v)
])

keeps_mark : (node : NodePast) (step : Step) (x : ℕ) (h : List Line) → AsksAll node h → AsksAll node (line_of step x first_port Begins ∷ h)
keeps_mark node step x h k = from_arms node (line_of step x first_port Begins ∷ h) (λ l older w. elim w [
  | inl e ↦ (λ arms_it. unarmed_asks l.did.deed (ap arms_in e) arms_it)
  | inr v ↦ asks_more node l older h (line_of step x first_port Begins ∷ h) (λ s q. inr q) (to_arms node h k l older v)
])

-- what is asked at the first of these lines
abbrev ArmsHere : NodePast → List Line → List Line → Type 0
ArmsHere node [] lines = Unit {0}
ArmsHere node (l ∷ older) lines = ArmsAt node l older lines

-- rows without it

record FreeAll (row : NodeRow) : Type 0 where
  pub run : (x : ℕ) (past : NodePast) → AllUnasked (row x past)

free_keeps : (row : NodeRow) → FreeAll row → LeadsAll Asking row Asking
free_keeps row p = record { run = λ x past k. keeps_free (set_up past) past.step x (row x past) past.lines (p.run x past) k }

free_on : (q : Port) (row : Row) → Clear row → FreeAll (on q row)
unfolding on
free_on q row p = record { run = λ x past. placed_free q (row x (on_port q past)) (p.run x (on_port q past)) }

free_nothing : FreeAll nothing_at_all
unfolding nothing_at_all
free_nothing = record { run = λ x past. tt }

free_and : (r s : NodeRow) → FreeAll r → FreeAll s → FreeAll (r and_then s)
unfolding ◌and_then◌
free_and r s p q = record { run = λ x past. all_append (r x past) (s x (spread x past (r x past))) (p.run x past) (q.run x (spread x past (r x past))) }

free_reading : {A : Type 0} (fact : ℕ → NodePast → A) (rows : A → NodeRow) → ((a : A) → FreeAll (rows a)) → FreeAll (reading_all fact rows)
unfolding reading_all
free_reading fact rows k = record { run = λ x past. (k (fact x past)).run x past }

free_ports : (r : Port → NodeRow) (ports : List Port) → ((q : Port) → FreeAll (r q)) → FreeAll (for_ports r ports)
unfolding for_ports
free_ports r [] k = free_nothing
free_ports r (q ∷ rest) k = free_and (r q) (for_ports r rest) (k q) (free_ports r rest k)

free_where : (test : NodePast → Bool) (row : NodeRow) → FreeAll row → FreeAll (λ x past. if test past then row x past else [])
free_where test row p = record {
  run = λ x past. elim (test past) as (λ b. AllUnasked (if b then row x past else [])) [
    | true ↦ p.run x past
    | false ↦ tt
  ];
}

free_abandons : (q : Port) → FreeAll (abandons_on q)
unfolding abandons_on
free_abandons q = record {
  run = λ x past. elim (is_going (view q past.lines)) as (λ b. AllUnasked (if b then record { port = q; act = Abandon } ∷ [] else [])) [
    | true ↦ (refl, tt)
    | false ↦ tt
  ];
}

-- the rounds that a row stirs
after_free : (q : Port) (ports : NodePast → List Port) (row : Row) (x : ℕ) (past : NodePast) →
    AllUnasked (if corrects (row x (on_port q past)) then for_ports abandons_on (ports past) x (spread x past (on q row x past)) else [])
after_free q ports row x past = elim (corrects (row x (on_port q past))) as (λ b. AllUnasked (if b then for_ports abandons_on (ports past) x
    (spread x past (on q row x past)) else [])) [
      | true ↦ (free_ports abandons_on (ports past) free_abandons).run x (spread x past (on q row x past))
      | false ↦ tt
    ]

-- of a row that keeps it
stirring_keeps : (q : Port) (ports : NodePast → List Port) (row : Row) (x : ℕ) (past : NodePast) → Asking x (spread x past (on q row x past)) →
    Asking x (spread x past (stirring q (ports past) row x past))
unfolding stirring
stirring_keeps q ports row x past k =
    let after = if corrects (row x (on_port q past)) then for_ports abandons_on (ports past) x (spread x past (on q row x past)) else [] in
    subst (λ p. Asking x p) (sym (spread_append x past (on q row x past) after))
    (keeps_free (set_up past) past.step x after (spread x past (on q row x past)).lines (after_free q ports row x past) k)

stirring_free : (q : Port) (ports : NodePast → List Port) (row : Row) → Clear row → FreeAll (λ x past. stirring q (ports past) row x past)
unfolding stirring
stirring_free q ports row c = record {
  run = λ x past. all_append (on q row x past)
      (if corrects (row x (on_port q past)) then for_ports abandons_on (ports past) x (spread x past (on q row x past)) else [])
      ((free_on q row c).run x past) (after_free q ports row x past);
}

-- what is taken

not_some : (o : Option ℕ) → is_some o ≡ false → o ≡ None
not_some None e = refl
not_some (Some n) e = absurd (true≢false e)

module _ (x : ℕ) (q : Port) (past : NodePast) (k : AsksAll (set_up past) past.lines) where
  abbrev Port_past : Past
  Port_past = on_port q past

  -- the lines after these acts on the port
  abbrev Grown : List Act → List Line
  Grown acts = joined past.step x (placed q acts) past.lines

  asked_free : (acts : List Act) → Unasked acts → AsksAll (set_up past) (Grown acts)
  asked_free acts u = keeps_free (set_up past) past.step x (placed q acts) past.lines (placed_free q acts u) k

  questions_free : (past : Past) → Unasked (questions past)
  questions_free past = posts (others past.own past.peers)
    where
      posts : (ps : List PeerId) → Unasked (map (post_of ResolveKind 0 past.name) ps)
      posts [] = tt
      posts (p ∷ ps) = (refl, posts ps)

  -- acts that end with the arming and the questions
  module _ (acts : List Act) (a : AsksLast x Port_past acts) where
    abbrev Front : List Line
    Front = Grown a.front

    abbrev Arms : Line
    Arms = line_of past.step x q (Acts (Arm ResolveAlarm (x + WINDOW)))

    lines-are : Grown acts ≡ joined past.step x (placed q (questions Port_past)) (Arms ∷ Front)
    lines-are = ap Grown a.is ∙ ap (λ ps. joined past.step x ps past.lines) (placed_append q a.front (resolve_acts x Port_past)) ∙
        joined_append past.step x (placed q a.front) (placed q (resolve_acts x Port_past)) past.lines

    unarmed : (armed (view q Front)).resolve ≡ None
    unarmed =
        let own : on_port q (spread x past (placed q a.front)) ≡ grown x Port_past a.front = on_own q x past a.front in
        let seen : view q Front ≡ (grown x Port_past a.front).seen = ap (λ (p : Past). p.seen) own in
        not_some (armed (view q Front)).resolve (ap (λ s. is_some (armed s).resolve) seen ∙ a.unarmed)

    here : AsksAt (set_up past) Arms Front (joined past.step x (placed q (questions Port_past)) (Arms ∷ Front))
    here = record { unarmed = unarmed; asks = Within_all (joined past.step x (placed q (questions Port_past)) (Arms ∷ Front)) }

    last-lines : AsksAll (set_up past) (joined past.step x (placed q (questions Port_past)) (Arms ∷ Front))
    last-lines =
        let all = joined past.step x (placed q (questions Port_past)) (Arms ∷ Front) in
        let front : AsksAll (set_up past) Front = asked_free a.front a.free in
        from_arms (set_up past) all (λ l older w.
        elim (split past.step x (placed q (questions Port_past)) (Arms ∷ Front) l older (placed_free q (questions Port_past) (questions_free Port_past)) w) [
          | inl e ↦ (λ arms_it. unarmed_asks l.did.deed e arms_it)
          | inr v ↦ elim v [
            | inl e ↦ subst (λ ls. ArmsHere (set_up past) ls all) (sym e) (λ arms_it. here)
            | inr v ↦ asks_more (set_up past) l older Front all (λ s p. within_joined past.step x (placed q (questions Port_past)) (Arms ∷ Front) s (inr p))
                (to_arms (set_up past) Front front l older v)
          ]
        ])

    asked-last : AsksAll (set_up past) (Grown acts)
    asked-last = subst (λ ls. AsksAll (set_up past) ls) (sym lines-are) last-lines

  pub asked : (acts : List Act) → FairActs x Port_past acts → AsksAll (set_up past) (Grown acts)
  asked acts (inl u) = asked_free acts u
  asked acts (inr a) = asked-last acts a

takes_asking : (q : Port) (steer charge : Bool) (from : Place) (t : Taken) (x : ℕ) (past : NodePast) → Asking x past →
    Asking x (spread x past (on q (takes steer charge from t) x past))
unfolding on
takes_asking q steer charge from t x past k = asked x q past k (takes steer charge from t x (on_port q past))
    ((taking steer charge from t).run x (on_port q past))

-- over all ports

loops_free : (q : Port) (acts : List Act) → FreeAll (loops_after q acts)
unfolding loops_after
loops_free q acts = free_where (λ past. ends_probes acts (on_port q past) past.ports) (on q (sends_loops q)) (free_on q (sends_loops q) (looped q))

alarm_free : (q : Port) (a : Alarm) → FreeAll (alarm_on q a)
unfolding alarm_on begins_round_on probes_on closes_on reading_all
alarm_free q Probe = record {
  run = λ x past. let acts = rings true false Probe x (on_port q past) in
      (free_and (on q (rings true false Probe)) (loops_after q acts) (free_on q (rings true false Probe) (rung true false Probe)) (loops_free q acts)).run x
      past;
}
alarm_free q CloseAlarm = record {
  run = λ x past. (stirring_free q (other_ports q) (rings (leads_clock q x past) false CloseAlarm) (rung (leads_clock q x past) false CloseAlarm)).run x past;
}
alarm_free q Round = record { run = λ x past. (free_on q (rings true (waits q x past) Round) (rung true (waits q x past) Round)).run x past }
alarm_free q a = free_on q (rings true false a) (rung true false a)

each_free : (q : Port) (alarms : List Alarm) → FreeAll (each_on q alarms)
each_free q [] = free_nothing
each_free q (a ∷ []) = alarm_free q a
each_free q (a ∷ next ∷ rest) = free_and (alarm_on q a) (each_on q (next ∷ rest)) (alarm_free q a) (each_free q (next ∷ rest))

turns_free : (q : Port) → FreeAll (turns_on q)
unfolding turns_on alarms_on
turns_free q = free_and (on q due_sends) (each_on q ALL) (free_on q due_sends repeated) (each_free q ALL)

all_turns : FreeAll (reading_all all_ports (for_ports turns_on))
all_turns = free_reading all_ports (for_ports turns_on) (λ ports. free_ports turns_on ports turns_free)

-- what comes

step_free : (q : Port) (s : LoopStep) → FreeAll (takes_loop_step q s)
unfolding takes_loop_step forwards reposts_on
step_free q PassOver = free_nothing
step_free q GiveUp = free_on q loosens_master loosened
step_free q (Forward m) = record {
  run = λ x past. (free_ports (λ r. λ y now. if is_awake_on now r then on r (reposts m) y now else []) (other_ports q past)
      (λ r. free_where (λ now. is_awake_on now r) (on r (reposts m)) (free_on r (reposts m) (reposted m)))).run x past;
}

heeds_free : (q : Port) (m : MessageValue) (b : Bool) → FreeAll (heeds_loop q m b)
unfolding heeds_loop judges
heeds_free q m true = record { run = λ x past. (step_free q (judge past.name (length past.ports) q m)).run x past }
heeds_free q m false = free_nothing

loop_free : (q : Port) (from : Place) (m : MessageValue) → FreeAll (takes_loop q from m)
unfolding takes_loop
loop_free q from m = free_and (on q (puts (Took from (Good (Message m))))) (reading_all (hears_on from q) (heeds_loop q m))
    (free_on q (puts (Took from (Good (Message m)))) (Clear_puts (Took from (Good (Message m))) refl))
    (free_reading (hears_on from q) (heeds_loop q m) (heeds_free q m))

kind_asking : (q : Port) (from : Place) (m : MessageValue) (k : Kind) → LeadsAll Asking (takes_kind q from m k) Asking
unfolding takes_kind takes_message
kind_asking q from m LoopKind = free_keeps (takes_loop q from m) (loop_free q from m)
kind_asking q from m _ = record {
  run = λ x past k. stirring_keeps q (stirred_ports q m.kind) (takes (steers q x past) (in_charge q x past) from (Good (Message m))) x past
      (takes_asking q (steers q x past) (in_charge q x past) from (Good (Message m)) x past k);
}

takes_on_holds : (q : Port) (from : Place) (t : Taken) → LeadsAll Asking (takes_on q from t) Asking
unfolding takes_on
takes_on_holds q from (Good (Message m)) = kind_asking q from m m.kind
takes_on_holds q from (Good (Stamp (Request word counter))) = record {
  run = λ x past k. takes_asking q true true from (Good (Stamp (Request word counter))) x past k;
}
takes_on_holds q from (Good (Stamp (Reply r))) = record { run = λ x past k. takes_asking q true true from (Good (Stamp (Reply r))) x past k }
takes_on_holds q from (Bad fault) = record { run = λ x past k. takes_asking q true true from (Bad fault) x past k }

input_asking : (g : NodeGiven) → LeadsAll Asking (input_all g) Asking
unfolding input_all
input_asking NodeTurn = free_keeps nothing_at_all free_nothing
input_asking (GotOn q from t) = takes_on_holds q from t

-- a node's step
answers_asking : (g : NodeGiven) → LeadsAll Asking (answers_all g) Asking
unfolding answers_all
answers_asking g = All_after (reading_all all_ports (for_ports turns_on)) (input_all g) (free_keeps (reading_all all_ports (for_ports turns_on)) all_turns)
    (input_asking g)

-- and its boot
boots_asking : LeadsAll Asking boots_all Asking
unfolding boots_all boots_on
boots_asking = free_keeps boots_all (free_and (on first_port (puts Boot)) (reading_all all_ports (for_ports boots_on)) (free_on first_port (puts Boot)
    (Clear_puts Boot refl)) (free_reading all_ports (for_ports boots_on) (λ ports. free_ports boots_on ports
    (λ q. free_on q (puts (Become Starting) followed_by arms Quiet QUIET) started))))

-- a step by a row that keeps it
row_asking : (header : HeaderValue) (step : Step) (x : ℕ) (row : NodeRow) (h : List Line) → LeadsAll Asking row Asking → AllAsk header h →
    AllAsk header (stepped step x (row x (in_node_step step x (past_of header step h))) h)
row_asking header step x row h leads asks n = by_case (step.node == n) refl where
  now : List Line
  now = stepped step x (row x (in_node_step step x (past_of header step h))) h

  by_case : (b : Bool) → (step.node == n) ≡ b → AsksAll (node_in header n) (of n now)
  by_case true e = subst (λ k. AsksAll (node_in header k) (of k now)) (eqb-true step.node n e)
      (subst (λ ls. AsksAll (node_in header step.node) ls)
      (sym (stepped_own step.node step x (row x (in_node_step step x (past_of header step h))) h (eq-eqb step.node step.node refl)))
      (leads.run x (in_node_step step x (past_of header step h)) (keeps_mark (node_in header step.node) step x (of step.node h) (asks step.node))))
  by_case false e = subst (λ ls. AsksAll (node_in header n) ls)
      (sym (stepped_other n step x (row x (in_node_step step x (past_of header step h))) h e)) (asks n)

module _ (clocks : Clocks) (header : HeaderValue) where
  steps_asking : (h : List Line) (row : NodeRow) (step : Step) → LeadsAll Asking row Asking → AllAsk header h →
      AllAsk header (joins (Some (steps_by clocks header h row step)) h)
  unfolding steps_by
  steps_asking h row step leads asks = row_asking header step (tick_by clocks step) row h leads asks

  event_asking : (h : List Line) (e : Event) → AllAsk header h → AllAsk header (joins (happening_by clocks header h e) h)
  event_asking h (BootAt at node word) t = steps_asking h boots_all (boot_by clocks h at node word) boots_asking t
  event_asking h (Turn at node) t = steps_asking h (answers_all NodeTurn) (record { at = at; node = node; cause = Turned }) (answers_asking NodeTurn) t
  event_asking h (Take at k) t = arrived (arrives (networks header) (slice_get (posts h) k)) where
    arrived : (o : Option Arrival) → AllAsk header (joins (reaches_by clocks header h at k o) h)
    arrived None = t
    arrived (Some a) = steps_asking h (answers_all (GotOn a.port a.from a.taken)) (record { at = at; node = a.node; cause = Came k })
        (answers_asking (GotOn a.port a.from a.taken)) t
  event_asking h (Bytes at node port from octets) t =
      steps_asking h (answers_all (GotOn port from (taken_of octets))) (record { at = at; node = node; cause = Handed })
      (answers_asking (GotOn port from (taken_of octets))) t

nothing_asks : (header : HeaderValue) → AllAsk header []
nothing_asks header n l older at w = let bad : ⊥ = cc in absurd bad

pub clocked_runs_ask_rivals : ClockedRunsAskRivals
clocked_runs_ask_rivals clocks header [] = nothing_asks header
clocked_runs_ask_rivals clocks header (e ∷ before) = event_asking clocks header (run_by clocks header before) e (clocked_runs_ask_rivals clocks header before)

pub runs_ask_rivals : RunsAskRivals
runs_ask_rivals header events = subst (λ h. AllAsk header h) (runs_by_own_clocks header events) (clocked_runs_ask_rivals (clocks_of header) header events)
