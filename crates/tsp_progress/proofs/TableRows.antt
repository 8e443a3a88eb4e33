-- Each row of a node over its ports leads from lines that keep the table to lines that do.
use Rattle.std.proofs.Common.{sym, ap, subst, true≢false, ◌∙◌, ◌≡◌, ◌⊎◌, inl, inr, ℕ, Bool, true, false, if◌then◌else◌, List, [], ◌∷◌, ◌++◌, length, refl}
use Rattle.tsp_rules.specs.Values.{Act, Boot, Took, Become, Ring, Late, Abandon, Alarm, Quiet, Round, Probe, CloseAlarm, Message, Stamp, Taken, Good, Bad}
use Rattle.tsp_rules.specs.Values.{Request, Reply, Kind, LoopKind, Place, Placed, Port, Starting, Search, Elect, Window, ResolveAlarm, ALL, QUIET}
use Rattle.tsp_base.specs.Words.{Acts, Begins, Deed, Line, MessageValue, Row, Step, Within, arms, first_port, is_going, joined, line_of, placed, puts}
use Rattle.tsp_base.specs.Words.{either_by, nothing, view, ◌followed_by◌}
use Rattle.tsp_base.proofs.PlaceLemmas.{Within_all}
use Rattle.tsp_rules.specs.{Answers.alarm_rings, Answers.handles, Answers.rings, Answers.takes, Guards.is_due, RoundRows.close_rings, RoundRows.corrects}
use Rattle.tsp_rules.specs.{RoundRows.round_rings, SendRows.due_sends}
use Rattle.tsp_rules.specs.GateRows.{GotOn, NodeGiven, NodeTurn, all_ports, alarm_on, alarms_on, answers_all, begins_round_on, boots_all, boots_on, closes_on}
use Rattle.tsp_rules.specs.GateRows.{each_on, ends_probes, forwards, hears_on, heeds_loop, in_charge, input_all, is_awake_on, judge, judges, leads_clock}
use Rattle.tsp_rules.specs.GateRows.{loops_after, loosens_master, other_ports, ports_from, probes_on, reposts, reposts_on, sends_loops, steers, stirred_ports}
use Rattle.tsp_rules.specs.GateRows.{takes_kind, takes_loop, takes_loop_step, takes_message, takes_on, turns_on, waits, LoopStep, PassOver, GiveUp, Forward}
use Rattle.tsp_rules.specs.NodeRows.{NodePast, NodeRow, abandons_on, for_ports, nothing_at_all, on, on_port, reading_all, spread, stirring, ◌and_then◌}
use Rattle.tsp_rules.proofs.NodeRowLemmas.{spread_append}
use Rattle.tsp_promises.proofs.leads.GateSteps.{All_after, LeadsAll}
use Rattle.tsp_progress.specs.ByTable.{KeepsTable, TableAt, is_loop_kind, set_up}
use Rattle.tsp_progress.proofs.{CueAlarms.Cued, CueAlarms.GoesOff, CueAlarms.alarm_cued, CueAlarms.taking_cued}
use Rattle.tsp_progress.proofs.CueRows.{Plain, Plain_arms, Plain_puts, Plain_then, Uncued, is_cue, looped, loosened, repeated, reposted}

-- the node's lines keep the table
abbrev pub Tabled : ℕ → NodePast → Type 0
Tabled x past = KeepsTable (set_up past) past.lines

-- what stands in a history stands in a longer one
pub within_joined : (step : Step) (x : ℕ) (acts : List Placed) (h s : List Line) → Within s h → Within s (joined step x acts h)
within_joined step x [] h s w = w
within_joined step x (p ∷ rest) h s w = within_joined step x rest (line_of step x p.port (Acts p.act) ∷ h) s (inr w)

-- none of these acts is a cue
abbrev pub AllUncued : List Placed → Type 0
AllUncued [] = Unit {0}
AllUncued (p ∷ rest) = (is_cue p.act ≡ false) × AllUncued rest

pub all_uncued_append : (ps qs : List Placed) → AllUncued ps → AllUncued qs → AllUncued (ps ++ qs)
all_uncued_append [] qs p q = q
all_uncued_append (a ∷ ps) qs p q = (p.0, all_uncued_append ps qs p.1 q)

placed_uncued : (q : Port) (acts : List Act) → Uncued acts → AllUncued (placed q acts)
placed_uncued q [] u = tt
placed_uncued q (a ∷ rest) u = (u.0, placed_uncued q rest u.1)

abbrev is_cue_deed : Deed → Bool
is_cue_deed Begins = false
is_cue_deed (Acts a) = is_cue a

-- other deeds ask for nothing
uncued_table : (deed : Deed) (node : NodePast) (l : Line) (older lines : List Line) → is_cue_deed deed ≡ false → TableAt deed node l older lines
uncued_table (Acts (Ring a)) node l older lines e = absurd (true≢false e)
uncued_table (Acts (Late a)) node l older lines e = absurd (true≢false e)
uncued_table (Acts (Took from t)) node l older lines e = absurd (true≢false e)
uncued_table _ node l older lines e = tt

-- what stands in more lines
table_more : (deed : Deed) (node : NodePast) (l : Line) (older lines more : List Line) → ((s : List Line) → Within s lines → Within s more) →
    TableAt deed node l older lines → TableAt deed node l older more
table_more (Acts (Ring a)) node l older lines more k w = k _ w
table_more (Acts (Late a)) node l older lines more k w = k _ w
table_more (Acts (Took from t)) node l older lines more k w = λ e. k _ (w e)
table_more _ node l older lines more k w = tt

abbrev first_or : Line → List Line → Line
first_or l [] = l
first_or l (k ∷ rest) = k

-- a line is among these acts, of which none is a cue, or before them
split : (step : Step) (x : ℕ) (acts : List Placed) (h : List Line) (l : Line) (older : List Line) → AllUncued acts → Within (l ∷ older) (joined step x acts h) →
    (is_cue_deed l.did.deed ≡ false) ⊎ Within (l ∷ older) h
split step x [] h l older u w = inr w
split step x (p ∷ rest) h l older u w = elim (split step x rest (line_of step x p.port (Acts p.act) ∷ h) l older u.1 w) [
  | inl e ↦ inl e
  | inr v ↦ elim v [
    | inl e ↦ inl (ap (λ (ls : List Line). is_cue_deed (first_or l ls).did.deed) e ∙ u.0)
    | inr v ↦ inr v
  ]
]

-- the table at the first of these lines
abbrev TableHere : NodePast → List Line → List Line → Type 0
TableHere node [] lines = Unit {0}
TableHere node (l ∷ older) lines = TableAt l.did.deed node l older lines

-- acts that are no cues keep the table
pub keeps_uncued : (node : NodePast) (step : Step) (x : ℕ) (acts : List Placed) (h : List Line) → AllUncued acts → KeepsTable node h →
    KeepsTable node (joined step x acts h)
keeps_uncued node step x acts h u k l older w = elim (split step x acts h l older u w) [
  | inl e ↦ uncued_table l.did.deed node l older (joined step x acts h) e
  | inr v ↦ table_more l.did.deed node l older h (joined step x acts h) (λ s q. within_joined step x acts h s q) (k l older v)
]

-- so does the mark of a step
pub keeps_mark : (node : NodePast) (step : Step) (x : ℕ) (h : List Line) → KeepsTable node h → KeepsTable node (line_of step x first_port Begins ∷ h)
keeps_mark node step x h k l older w = elim w [
  | inl e ↦ uncued_table l.did.deed node l older (line_of step x first_port Begins ∷ h) (ap (λ (ls : List Line). is_cue_deed (first_or l ls).did.deed) e)
  | inr v ↦ table_more l.did.deed node l older h (line_of step x first_port Begins ∷ h) (λ s q. inr q) (k l older v)
]

-- and a cue with what follows it, if that is what the table asks for
keeps_cue : (past : NodePast) (x : ℕ) (q : Port) (cue : Act) (rest : List Act) → Uncued rest → KeepsTable (set_up past) past.lines →
    TableAt (Acts cue) (set_up past) (line_of past.step x q (Acts cue)) past.lines (joined past.step x (placed q (cue ∷ rest)) past.lines) →
    KeepsTable (set_up past) (joined past.step x (placed q (cue ∷ rest)) past.lines)
keeps_cue past x q cue rest u k asked l older w =
    let here = line_of past.step x q (Acts cue) in
    let all = joined past.step x (placed q (cue ∷ rest)) past.lines in
    elim (split past.step x (placed q rest) (here ∷ past.lines) l older (placed_uncued q rest u) w) [
      | inl e ↦ uncued_table l.did.deed (set_up past) l older all e
      | inr v ↦ elim v [
        | inl e ↦ subst (λ (ls : List Line). TableHere (set_up past) ls all) (sym e) asked
        | inr v ↦ table_more l.did.deed (set_up past) l older past.lines all (λ s p. within_joined past.step x (placed q (cue ∷ rest)) past.lines s p)
            (k l older v)
      ]
    ]

-- rows without cues

pub record PlainAll (row : NodeRow) : Type 0 where
  pub run : (x : ℕ) (past : NodePast) → AllUncued (row x past)

pub plain_keeps : (row : NodeRow) → PlainAll row → LeadsAll Tabled row Tabled
plain_keeps row p = record { run = λ x past k. keeps_uncued (set_up past) past.step x (row x past) past.lines (p.run x past) k }

plain_on : (q : Port) (row : Row) → Plain row → PlainAll (on q row)
unfolding on
plain_on q row p = record { run = λ x past. placed_uncued q (row x (on_port q past)) (p.run x (on_port q past)) }

plain_nothing : PlainAll nothing_at_all
unfolding nothing_at_all
plain_nothing = record { run = λ x past. tt }

plain_and : (r s : NodeRow) → PlainAll r → PlainAll s → PlainAll (r and_then s)
unfolding ◌and_then◌
plain_and r s p q = record { run = λ x past. all_uncued_append (r x past) (s x (spread x past (r x past))) (p.run x past) (q.run x (spread x past (r x past))) }

plain_reading : {A : Type 0} (fact : ℕ → NodePast → A) (rows : A → NodeRow) → ((a : A) → PlainAll (rows a)) → PlainAll (reading_all fact rows)
unfolding reading_all
plain_reading fact rows k = record { run = λ x past. (k (fact x past)).run x past }

plain_ports : (r : Port → NodeRow) (ports : List Port) → ((q : Port) → PlainAll (r q)) → PlainAll (for_ports r ports)
unfolding for_ports
plain_ports r [] k = plain_nothing
plain_ports r (q ∷ rest) k = plain_and (r q) (for_ports r rest) (k q) (plain_ports r rest k)

plain_where : (test : NodePast → Bool) (row : NodeRow) → PlainAll row → PlainAll (λ x past. if test past then row x past else [])
plain_where test row p = record {
  run = λ x past. elim (test past) as (λ b. AllUncued (if b then row x past else [])) [
    | true ↦ p.run x past
    | false ↦ tt
  ];
}

plain_abandons : (q : Port) → PlainAll (abandons_on q)
unfolding abandons_on
plain_abandons q = record {
  run = λ x past. elim (is_going (view q past.lines)) as (λ b. AllUncued (if b then record { port = q; act = Abandon } ∷ [] else [])) [
    | true ↦ (refl, tt)
    | false ↦ tt
  ];
}

-- a row of a port, and then the rounds that it stirs
stirring_keeps : (q : Port) (ports : NodePast → List Port) (row : Row) (x : ℕ) (past : NodePast) → Tabled x (spread x past (on q row x past)) →
    Tabled x (spread x past (stirring q (ports past) row x past))
unfolding stirring
stirring_keeps q ports row x past k = subst (λ p. Tabled x p) (sym (spread_append x past (on q row x past) after))
    (keeps_uncued (set_up past) past.step x after (spread x past (on q row x past)).lines few k) where
      after : List Placed
      after = if corrects (row x (on_port q past)) then for_ports abandons_on (ports past) x (spread x past (on q row x past)) else []

      few : AllUncued after
      few = elim (corrects (row x (on_port q past))) as (λ b. AllUncued (if b then for_ports abandons_on (ports past) x (spread x past (on q row x past)) else
          [])) [
            | true ↦ (plain_ports abandons_on (ports past) plain_abandons).run x (spread x past (on q row x past))
            | false ↦ tt
          ]

-- the alarms

-- the row of an alarm is that of the node at the time
abbrev pub Right : NodePast → Port → ℕ → Alarm → Bool → Bool → Type 0
Right past q x CloseAlarm own wait = own ≡ leads_clock q x past
Right past q x Round own wait = wait ≡ waits q x past
Right past q x a own wait = Unit {0}

same_row : (past : NodePast) (q : Port) (x : ℕ) (a : Alarm) (own wait : Bool) → Right past q x a own wait →
    alarm_rings own wait a ≡ alarm_rings (leads_clock q x past) (waits q x past) a
unfolding alarm_rings
same_row past q x CloseAlarm own wait e = ap close_rings e
same_row past q x Round own wait e = ap round_rings e
same_row past q x _ own wait e = refl

module _ (q : Port) (x : ℕ) (past : NodePast) (k : Tabled x past) where
  -- all acts of this row
  abbrev Grown : List Act → List Line
  Grown acts = joined past.step x (placed q acts) past.lines

  off_asked : (a : Alarm) (own wait : Bool) → Right past q x a own wait → (cue : Act) → GoesOff a cue →
      TableAt (Acts cue) (set_up past) (line_of past.step x q (Acts cue)) past.lines (Grown (alarm_rings own wait a x (on_port q past)))
  off_asked a own wait right cue off =
      let stands = subst (λ (r : Row). Within (Grown (r x (on_port q past))) (Grown (alarm_rings own wait a x (on_port q past))))
      (same_row past q x a own wait right)
      (Within_all (Grown (alarm_rings own wait a x (on_port q past)))) in
      elim off [
        | inl e ↦ subst (λ c. TableAt (Acts c) (set_up past) (line_of past.step x q (Acts c)) past.lines (Grown (alarm_rings own wait a x (on_port q past))))
            (sym e) stands
        | inr e ↦ subst (λ c. TableAt (Acts c) (set_up past) (line_of past.step x q (Acts c)) past.lines (Grown (alarm_rings own wait a x (on_port q past))))
            (sym e) stands
      ]

  cued_keeps : {good : Act → Type 0} (acts : List Act) (c : Cued good acts) →
      TableAt (Acts c.cue) (set_up past) (line_of past.step x q (Acts c.cue)) past.lines (Grown acts) → KeepsTable (set_up past) (Grown acts)
  cued_keeps acts c asked = subst (λ acts. KeepsTable (set_up past) (Grown acts)) (sym c.is) (keeps_cue past x q c.cue c.rest c.uncued k
      (subst (λ acts. TableAt (Acts c.cue) (set_up past) (line_of past.step x q (Acts c.cue)) past.lines (Grown acts)) c.is asked))

  pub rings_table : (a : Alarm) (own wait : Bool) → Right past q x a own wait → Tabled x (spread x past (on q (rings own wait a) x past))
  unfolding on rings either_by nothing
  rings_table a own wait right = by_due (is_due a x (on_port q past)) where
    by_due : (b : Bool) → KeepsTable (set_up past) (Grown (if b then alarm_rings own wait a x (on_port q past) else []))
    by_due true =
        let c = (alarm_cued own wait a).run x (on_port q past) in
        cued_keeps (alarm_rings own wait a x (on_port q past)) c (off_asked a own wait right c.cue c.good_is)
    by_due false = k

  taken_asked : (steer charge : Bool) (from : Place) (t : Taken) →
      takes steer charge from t x (on_port q past) ≡ takes (steers q x past) (in_charge q x past) from t x (on_port q past) → (cue : Act) → cue ≡ Took from t →
      TableAt (Acts cue) (set_up past) (line_of past.step x q (Acts cue)) past.lines (Grown (takes steer charge from t x (on_port q past)))
  taken_asked steer charge from t same cue is =
      subst (λ c. TableAt (Acts c) (set_up past) (line_of past.step x q (Acts c)) past.lines (Grown (takes steer charge from t x (on_port q past)))) (sym is)
      (λ e. subst (λ acts. Within (Grown acts) (Grown (takes steer charge from t x (on_port q past)))) same
      (Within_all (Grown (takes steer charge from t x (on_port q past)))))

  pub takes_table : (steer charge : Bool) (from : Place) (t : Taken) →
      takes steer charge from t x (on_port q past) ≡ takes (steers q x past) (in_charge q x past) from t x (on_port q past) →
      Tabled x (spread x past (on q (takes steer charge from t) x past))
  unfolding on
  takes_table steer charge from t same =
      let c = (taking_cued steer charge from t).run x (on_port q past) in
      cued_keeps (takes steer charge from t x (on_port q past)) c (taken_asked steer charge from t same c.cue c.good_is)

-- over all ports

loops_plain : (q : Port) (acts : List Act) → PlainAll (loops_after q acts)
unfolding loops_after
loops_plain q acts = plain_where (λ past. ends_probes acts (on_port q past) past.ports) (on q (sends_loops q)) (plain_on q (sends_loops q) (looped q))

alarm_table : (q : Port) (a : Alarm) → LeadsAll Tabled (alarm_on q a) Tabled
unfolding alarm_on begins_round_on probes_on closes_on reading_all
alarm_table q Probe = record {
  run = λ x past k. let acts = rings true false Probe x (on_port q past) in
      (All_after (on q (rings true false Probe)) (loops_after q acts) (record { run = λ y now w. rings_table q y now w Probe true false tt })
      (plain_keeps (loops_after q acts) (loops_plain q acts))).run x past k;
}
alarm_table q CloseAlarm = record {
  run = λ x past k. stirring_keeps q (other_ports q) (rings (leads_clock q x past) false CloseAlarm) x past
      (rings_table q x past k CloseAlarm (leads_clock q x past) false refl);
}
alarm_table q Round = record { run = λ x past k. rings_table q x past k Round true (waits q x past) refl }
alarm_table q Quiet = record { run = λ x past k. rings_table q x past k Quiet true false tt }
alarm_table q Search = record { run = λ x past k. rings_table q x past k Search true false tt }
alarm_table q Elect = record { run = λ x past k. rings_table q x past k Elect true false tt }
alarm_table q Window = record { run = λ x past k. rings_table q x past k Window true false tt }
alarm_table q ResolveAlarm = record { run = λ x past k. rings_table q x past k ResolveAlarm true false tt }

each_table : (q : Port) (alarms : List Alarm) → LeadsAll Tabled (each_on q alarms) Tabled
each_table q [] = plain_keeps nothing_at_all plain_nothing
each_table q (a ∷ []) = alarm_table q a
each_table q (a ∷ next ∷ rest) = All_after (alarm_on q a) (each_on q (next ∷ rest)) (alarm_table q a) (each_table q (next ∷ rest))

turns_table : (q : Port) → LeadsAll Tabled (turns_on q) Tabled
unfolding turns_on alarms_on
turns_table q = All_after (on q due_sends) (each_on q ALL) (plain_keeps (on q due_sends) (plain_on q due_sends repeated)) (each_table q ALL)

list_table : (r : Port → NodeRow) (ports : List Port) → ((q : Port) → LeadsAll Tabled (r q) Tabled) → LeadsAll Tabled (for_ports r ports) Tabled
unfolding for_ports
list_table r [] k = plain_keeps nothing_at_all plain_nothing
list_table r (q ∷ rest) k = All_after (r q) (for_ports r rest) (k q) (list_table r rest k)

-- what comes

step_plain : (q : Port) (s : LoopStep) → PlainAll (takes_loop_step q s)
unfolding takes_loop_step forwards reposts_on
step_plain q PassOver = plain_nothing
step_plain q GiveUp = plain_on q loosens_master loosened
step_plain q (Forward m) = record {
  run = λ x past. (plain_ports (λ r. λ y now. if is_awake_on now r then on r (reposts m) y now else []) (other_ports q past)
      (λ r. plain_where (λ now. is_awake_on now r) (on r (reposts m)) (plain_on r (reposts m) (reposted m)))).run x past;
}

heeds_plain : (q : Port) (m : MessageValue) (b : Bool) → PlainAll (heeds_loop q m b)
unfolding heeds_loop judges
heeds_plain q m true = record { run = λ x past. (step_plain q (judge past.name (length past.ports) q m)).run x past }
heeds_plain q m false = plain_nothing

loop-kind : (k : Kind) → k ≡ LoopKind → is_loop_kind k ≡ true
loop-kind k e = ap is_loop_kind e

took_loop : (q : Port) (from : Place) (m : MessageValue) → m.kind ≡ LoopKind → LeadsAll Tabled (on q (puts (Took from (Good (Message m))))) Tabled
unfolding on puts
took_loop q from m is = record {
  run = λ x past k. keeps_cue past x q (Took from (Good (Message m))) [] tt k (λ e. absurd (true≢false (sym (loop-kind m.kind is) ∙ e)));
}

loop_table : (q : Port) (from : Place) (m : MessageValue) → m.kind ≡ LoopKind → LeadsAll Tabled (takes_loop q from m) Tabled
unfolding takes_loop
loop_table q from m is = All_after (on q (puts (Took from (Good (Message m))))) (reading_all (hears_on from q) (heeds_loop q m)) (took_loop q from m is)
    (plain_keeps (reading_all (hears_on from q) (heeds_loop q m)) (plain_reading (hears_on from q) (heeds_loop q m) (heeds_plain q m)))

kind_table : (q : Port) (from : Place) (m : MessageValue) (k : Kind) → m.kind ≡ k → LeadsAll Tabled (takes_kind q from m k) Tabled
unfolding takes_kind takes_message
kind_table q from m LoopKind is = loop_table q from m is
kind_table q from m _ is = record {
  run = λ x past k. stirring_keeps q (stirred_ports q m.kind) (takes (steers q x past) (in_charge q x past) from (Good (Message m))) x past
      (takes_table q x past k (steers q x past) (in_charge q x past) from (Good (Message m)) refl);
}

takes_table_holds : (q : Port) (from : Place) (t : Taken) → LeadsAll Tabled (takes_on q from t) Tabled
unfolding takes_on takes handles
takes_table_holds q from (Good (Message m)) = kind_table q from m m.kind refl
takes_table_holds q from (Good (Stamp (Request word counter))) = record {
  run = λ x past k. takes_table q x past k true true from (Good (Stamp (Request word counter))) refl;
}
takes_table_holds q from (Good (Stamp (Reply r))) = record { run = λ x past k. takes_table q x past k true true from (Good (Stamp (Reply r))) refl }
takes_table_holds q from (Bad fault) = record { run = λ x past k. takes_table q x past k true true from (Bad fault) refl }

input_table : (g : NodeGiven) → LeadsAll Tabled (input_all g) Tabled
unfolding input_all
input_table NodeTurn = plain_keeps nothing_at_all plain_nothing
input_table (GotOn q from t) = takes_table_holds q from t

all_turns : LeadsAll Tabled (reading_all all_ports (for_ports turns_on)) Tabled
unfolding reading_all
all_turns = record { run = λ x past k. (list_table turns_on (ports_from 0 past.ports) turns_table).run x past k }

-- a node's step
pub answers_tabled : (g : NodeGiven) → LeadsAll Tabled (answers_all g) Tabled
unfolding answers_all
answers_tabled g = All_after (reading_all all_ports (for_ports turns_on)) (input_all g) all_turns (input_table g)

-- and its boot
pub boots_tabled : LeadsAll Tabled boots_all Tabled
unfolding boots_all boots_on
boots_tabled = plain_keeps boots_all (plain_and (on first_port (puts Boot)) (reading_all all_ports (for_ports boots_on)) (plain_on first_port (puts Boot)
    (Plain_puts Boot refl)) (plain_reading all_ports (for_ports boots_on) (λ ports. plain_ports boots_on ports starts))) where
      starts : (q : Port) → PlainAll (boots_on q)
      starts q = plain_on q (puts (Become Starting) followed_by arms Quiet QUIET) (Plain_then (puts (Become Starting)) (arms Quiet QUIET)
          (Plain_puts (Become Starting) refl) (Plain_arms Quiet QUIET))
