-- What each row of a port keeps, each step of a node keeps over all its ports.
use Rattle.std.proofs.Common.{sym, subst, append-nil, ◌≡◌, ℕ, ◌==◌, ◌||◌, Bool, true, false, if◌then◌else◌, List, [], ◌∷◌, ◌++◌, length, refl}
use Rattle.tsp_rules.specs.Values.{Act, Boot, Took, Abandon, Alarm, Round, Probe, CloseAlarm, Message, Stamp, Taken, Good, Bad, Kind, LoopKind, Place, Port}
use Rattle.tsp_rules.specs.Values.{ALL}
use Rattle.tsp_base.specs.Words.{Acts, Did, Here, Elsewhere, Line, MessageValue, Past, Row, Seen, Step, Leads, is_going, is_shared, joined, line_of, placed}
use Rattle.tsp_base.specs.Words.{puts, seen_as, view}
use Rattle.tsp_base.proofs.{LeadsLemmas.Leads_to, ViewPlaces.port_same}
use Rattle.tsp_rules.specs.GateRows.{GotOn, NodeGiven, NodeTurn, all_ports, alarm_on, alarms_on, answers_all, begins_round_on, closes_on, each_on, ends_probes}
use Rattle.tsp_rules.specs.GateRows.{forwards, hears_on, heeds_loop, input_all, is_awake_on, judge, judges, leads_clock, loops_after, loosens_master}
use Rattle.tsp_rules.specs.GateRows.{other_ports, probes_on, reposts, reposts_on, sends_loops, stirred_ports, steers, in_charge, takes_kind, takes_loop}
use Rattle.tsp_rules.specs.GateRows.{takes_loop_step, takes_message, takes_on, turns_on, waits}
use Rattle.tsp_rules.specs.GateRows.{LoopStep, PassOver, GiveUp, Forward}
use Rattle.tsp_rules.specs.NodeRows.{NodePast, NodeRow, abandons_on, for_ports, nothing_at_all, on, on_port, reading_all, spread, stirring}
use Rattle.tsp_rules.specs.{Answers.rings, Answers.takes, RoundRows.corrects, SendRows.due_sends}
use Rattle.tsp_rules.proofs.{NodeRowLemmas.on_own, NodeRowLemmas.spread_append}
use Rattle.tsp_promises.proofs.leads.GateSteps.{All_after, All_reading, LeadsAll}
use Rattle.std.proofs.Common.{◌&&◌, nat_le, nat_lt}
use Rattle.tsp_rules.specs.Values.{HOPS}
use Rattle.tsp_rules.specs.GateRows.{hops_in, one_hop_less, same_name}
use Rattle.tsp_progress.specs.AlarmsFit.{Manner}
use Rattle.tsp_progress.proofs.Waking.{manner}

-- what acts of the node on other ports leave alone, at the tick when they are done
pub record Family (P : Manner → ℕ → List Seen → Type 0) : Type 0 where
  pub boots : (m : Manner) (step : Step) (x : ℕ) (seen : List Seen) → P m x seen → P m x (Here (record { step = step; tick = x; deed = Acts Boot }) ∷ seen)
  pub aside : (m : Manner) (d : Did) (x : ℕ) (seen : List Seen) → P m x seen → P m x (Elsewhere d ∷ seen)

-- a node's manner is that of its ports
abbrev pub node_manner : NodePast → Manner
node_manner past = record { may = past.may; strict = past.strict }

-- of each port
abbrev pub Each : (Manner → ℕ → List Seen → Type 0) → ℕ → NodePast → Type 0
Each P x past = (r : Port) → P (node_manner past) x (view r past.lines)

module _ (P : Manner → ℕ → List Seen → Type 0) (family : Family P) where
  one_beside : (m : Manner) (q r : Port) → (q.0 == r.0) ≡ false → (step : Step) (x : ℕ) (a : Act) (seen : List Seen) → P m x seen →
      P m x (seen_as ((q.0 == r.0) || is_shared (Acts a)) (line_of step x q (Acts a)).did ∷ seen)
  one_beside m q r n step x Boot seen h = subst (λ b. P m x (seen_as (b || true) (line_of step x q (Acts Boot)).did ∷ seen)) (sym n)
      (family.boots m step x seen h)
  one_beside m q r n step x a seen h = subst (λ b. P m x (seen_as (b || false) (line_of step x q (Acts a)).did ∷ seen)) (sym n)
      (family.aside m (line_of step x q (Acts a)).did x seen h)

  pub beside : (m : Manner) (q r : Port) → (q.0 == r.0) ≡ false → (step : Step) (x : ℕ) (acts : List Act) (lines : List Line) → P m x (view r lines) →
      P m x (view r (joined step x (placed q acts) lines))
  beside m q r n step x [] lines h = h
  beside m q r n step x (a ∷ rest) lines h = beside m q r n step x rest (line_of step x q (Acts a) ∷ lines) (one_beside m q r n step x a (view r lines) h)

  -- a port's row
  pub on_each : (q : Port) (row : Row) → Leads (λ x past. P (manner past) x past.seen) row (λ x past. P (manner past) x past.seen) →
      LeadsAll (Each P) (on q row) (Each P)
  unfolding on
  on_each q row d = record { run = λ x past all r. by_case x past all r (q.0 == r.0) refl } where
    by_case : (x : ℕ) (past : NodePast) → Each P x past → (r : Port) (b : Bool) → (q.0 == r.0) ≡ b →
        P (node_manner past) x (on_port r (spread x past (placed q (row x (on_port q past))))).seen
    by_case x past all r true e = subst (λ p. P (node_manner past) x (on_port p (spread x past (placed q (row x (on_port q past))))).seen) (port_same q r e)
        (subst (λ (z : Past). P (node_manner past) x z.seen) (sym (on_own q x past (row x (on_port q past)))) (d.run x (on_port q past) (all q)))
    by_case x past all r false e = beside (node_manner past) q r e past.step x (row x (on_port q past)) past.lines (all r)

  pub list_each : (r : Port → NodeRow) (ports : List Port) → ((q : Port) → LeadsAll (Each P) (r q) (Each P)) → LeadsAll (Each P) (for_ports r ports) (Each P)
  unfolding for_ports nothing_at_all
  list_each r [] k = record { run = λ x past all. all }
  list_each r (q ∷ rest) k = All_after (r q) (for_ports r rest) (k q) (list_each r rest k)

-- this is so of a port
abbrev pub At : (Manner → ℕ → List Seen → Type 0) → ℕ → Past → Type 0
At P x past = P (manner past) x past.seen

-- each row of a port keeps P, where what is taken is as Ok says; after a datagram was taken H holds
pub record Keeps (P H : Manner → ℕ → List Seen → Type 0) (Ok : Place → Taken → Type 0) : Type 0 where
  pub family : Family P
  pub weaken : (x : ℕ) (past : Past) → At H x past → At P x past
  pub sends : Leads (At P) due_sends (At P)
  pub rings : (own wait : Bool) (a : Alarm) → Leads (At P) (rings own wait a) (At P)
  pub takes : (steer charge : Bool) (from : Place) (t : Taken) → Ok from t → Leads (At P) (takes steer charge from t) (At P)
  pub took : (from : Place) (m : MessageValue) → m.kind ≡ LoopKind → Ok from (Good (Message m)) → Leads (At P) (puts (Took from (Good (Message m)))) (At H)
  pub gives_up : Leads (At H) loosens_master (At P)
  pub abandons : Leads (At P) (puts Abandon) (At P)
  pub loops : (q : Port) → Leads (At P) (sends_loops q) (At P)
  pub reposts : (m : MessageValue) → m.kind ≡ LoopKind → Leads (At P) (reposts m) (At P)

-- only LOOPs are passed on
abbrev IsLoop : LoopStep → Type 0
IsLoop (Forward m) = m.kind ≡ LoopKind
IsLoop _ = Unit {0}

loop_if : (b : Bool) (s t : LoopStep) → IsLoop s → IsLoop t → IsLoop (if b then s else t)
loop_if true s t p q = p
loop_if false s t p q = q

judge_loop : (own : List ℕ) (ports : ℕ) (port : Port) (m : MessageValue) → m.kind ≡ LoopKind → IsLoop (judge own ports port m)
judge_loop own ports port m kind =
    loop_if (nat_le 2 ports) _ _ (loop_if (same_name m.name own) _ _ (loop_if (nat_lt m.number port.0) GiveUp PassOver tt tt)
    (loop_if (nat_le 1 (hops_in m.body) && nat_le (hops_in m.body) HOPS) (Forward (one_hop_less m)) PassOver kind tt)) tt

-- what a step is given is as Ok says
abbrev pub OkGiven : (Place → Taken → Type 0) → NodeGiven → Type 0
OkGiven Ok NodeTurn = Unit {0}
OkGiven Ok (GotOn q from t) = Ok from t

module _ (P H : Manner → ℕ → List Seen → Type 0) (Ok : Place → Taken → Type 0) (k : Keeps P H Ok) where
  -- a row of port q
  on_keep : (q : Port) (row : Row) → Leads (At P) row (At P) → LeadsAll (Each P) (on q row) (Each P)
  on_keep = on_each P k.family

  nothing_keep : LeadsAll (Each P) nothing_at_all (Each P)
  unfolding nothing_at_all
  nothing_keep = record { run = λ x past all. all }

  abandons_keep : (q : Port) → LeadsAll (Each P) (abandons_on q) (Each P)
  unfolding abandons_on on puts
  abandons_keep q = record { run = λ x past all. by_case x past all (is_going (view q past.lines)) } where
    by_case : (x : ℕ) (past : NodePast) → Each P x past → (b : Bool) → Each P x (spread x past (if b then record { port = q; act = Abandon } ∷ [] else []))
    by_case x past all true = (on_keep q (puts Abandon) k.abandons).run x past all
    by_case x past all false = all

  -- a port's row, and what it stirs
  stirring_keep : (q : Port) (ports : NodePast → List Port) (row : Row) → Leads (At P) row (At P) →
      LeadsAll (Each P) (λ x past. stirring q (ports past) row x past) (Each P)
  unfolding stirring
  stirring_keep q ports row d = record { run = λ x past all. by_case x past ((on_keep q row d).run x past all) (corrects (row x (on_port q past))) } where
    by_case : (x : ℕ) (past : NodePast) → Each P x (spread x past (on q row x past)) → (b : Bool) →
        Each P x (spread x past (on q row x past ++ (if b then for_ports abandons_on (ports past) x (spread x past (on q row x past)) else [])))
    by_case x past first true = subst (λ z. Each P x z) (sym (spread_append x past (on q row x past)
        (for_ports abandons_on (ports past) x (spread x past (on q row x past)))))
        ((list_each P k.family abandons_on (ports past) abandons_keep).run x (spread x past (on q row x past)) first)
    by_case x past first false = subst (λ acts. Each P x (spread x past acts)) (sym (append-nil (on q row x past))) first

  -- the alarms

  loops_keep : (q : Port) (acts : List Act) → LeadsAll (Each P) (loops_after q acts) (Each P)
  unfolding loops_after
  loops_keep q acts = record { run = λ x past all. by_case x past all (ends_probes acts (on_port q past) past.ports) } where
    by_case : (x : ℕ) (past : NodePast) → Each P x past → (b : Bool) → Each P x (spread x past (if b then on q (sends_loops q) x past else []))
    by_case x past all true = (on_keep q (sends_loops q) (k.loops q)).run x past all
    by_case x past all false = all

  rings_keep : (q : Port) (own wait : Bool) (a : Alarm) → LeadsAll (Each P) (on q (rings own wait a)) (Each P)
  rings_keep q own wait a = on_keep q (rings own wait a) (k.rings own wait a)

  probes_keep : (q : Port) → LeadsAll (Each P) (probes_on q) (Each P)
  unfolding probes_on
  probes_keep q = record {
    run = λ x past all.
        let acts = rings true false Probe x (on_port q past) in
        (All_after (on q (rings true false Probe)) (loops_after q acts) (rings_keep q true false Probe) (loops_keep q acts)).run x past all;
  }

  closes_keep : (q : Port) (own : Bool) → LeadsAll (Each P) (closes_on q own) (Each P)
  unfolding closes_on
  closes_keep q own = stirring_keep q (other_ports q) (rings own false CloseAlarm) (k.rings own false CloseAlarm)

  alarm_keep : (q : Port) (a : Alarm) → LeadsAll (Each P) (alarm_on q a) (Each P)
  unfolding alarm_on begins_round_on
  alarm_keep q Probe = probes_keep q
  alarm_keep q CloseAlarm = All_reading (leads_clock q) (closes_on q) (closes_keep q)
  alarm_keep q Round = All_reading (waits q) (λ wait. on q (rings true wait Round)) (λ wait. rings_keep q true wait Round)
  alarm_keep q a = rings_keep q true false a

  each_keep : (q : Port) (alarms : List Alarm) → LeadsAll (Each P) (each_on q alarms) (Each P)
  each_keep q [] = nothing_keep
  each_keep q (a ∷ []) = alarm_keep q a
  each_keep q (a ∷ next ∷ rest) = All_after (alarm_on q a) (each_on q (next ∷ rest)) (alarm_keep q a) (each_keep q (next ∷ rest))

  turns_keep : (q : Port) → LeadsAll (Each P) (turns_on q) (Each P)
  unfolding turns_on alarms_on
  turns_keep q = All_after (on q due_sends) (each_on q ALL) (on_keep q due_sends k.sends) (each_keep q ALL)

  -- what comes

  reposts_keep : (m : MessageValue) → m.kind ≡ LoopKind → (q : Port) → LeadsAll (Each P) (reposts_on m q) (Each P)
  unfolding reposts_on
  reposts_keep m is q = record { run = λ x past all. by_case x past all (is_awake_on past q) } where
    by_case : (x : ℕ) (past : NodePast) → Each P x past → (b : Bool) → Each P x (spread x past (if b then on q (reposts m) x past else []))
    by_case x past all true = (on_keep q (reposts m) (k.reposts m is)).run x past all
    by_case x past all false = all

  -- while port q has taken a datagram
  abbrev TookOn : Port → ℕ → NodePast → Type 0
  TookOn q x past = Each P x past × H (node_manner past) x (view q past.lines)

  loop_keep : (q : Port) (s : LoopStep) → IsLoop s → LeadsAll (TookOn q) (takes_loop_step q s) (Each P)
  unfolding takes_loop_step forwards nothing_at_all on
  loop_keep q PassOver is = record { run = λ x past h. h.0 }
  loop_keep q GiveUp is = record { run = λ x past h r. by_case x past h r (q.0 == r.0) refl } where
    by_case : (x : ℕ) (past : NodePast) → TookOn q x past → (r : Port) (b : Bool) → (q.0 == r.0) ≡ b →
        P (node_manner past) x (on_port r (spread x past (placed q (loosens_master x (on_port q past))))).seen
    by_case x past h r true e = subst (λ p. P (node_manner past) x (on_port p (spread x past (placed q (loosens_master x (on_port q past))))).seen)
        (port_same q r e)
        (subst (λ (z : Past). P (node_manner past) x z.seen) (sym (on_own q x past (loosens_master x (on_port q past))))
        (k.gives_up.run x (on_port q past) h.1))
    by_case x past h r false e = beside P k.family (node_manner past) q r e past.step x (loosens_master x (on_port q past)) past.lines (h.0 r)
  loop_keep q (Forward m) is = record { run = λ x past h. (list_each P k.family (reposts_on m) (other_ports q past) (reposts_keep m is)).run x past h.0 }

  heeds_keep : (q : Port) (m : MessageValue) → m.kind ≡ LoopKind → (b : Bool) → LeadsAll (TookOn q) (heeds_loop q m b) (Each P)
  unfolding heeds_loop judges nothing_at_all
  heeds_keep q m is true = record {
    run = λ x past h. (loop_keep q (judge past.name (length past.ports) q m)
        (judge_loop past.name (length past.ports) q m is)).run x past h;
  }
  heeds_keep q m is false = record { run = λ x past h. h.0 }

  took_keep : (q : Port) (from : Place) (m : MessageValue) → m.kind ≡ LoopKind → Ok from (Good (Message m)) →
      LeadsAll (Each P) (on q (puts (Took from (Good (Message m))))) (TookOn q)
  unfolding on
  took_keep q from m is ok =
      let t = Good (Message m) in
      record {
        run = λ x past all. (
          (on_keep q (puts (Took from t)) (Leads_to k.weaken (k.took from m is ok))).run x past all,
          subst (λ (z : Past). H (node_manner past) x z.seen) (sym (on_own q x past (puts (Took from t) x (on_port q past))))
              ((k.took from m is ok).run x (on_port q past) (all q)),
        );
      }

  takes_loop_keep : (q : Port) (from : Place) (m : MessageValue) → m.kind ≡ LoopKind → Ok from (Good (Message m)) →
      LeadsAll (Each P) (takes_loop q from m) (Each P)
  unfolding takes_loop
  takes_loop_keep q from m is ok = All_after (on q (puts (Took from (Good (Message m))))) (reading_all (hears_on from q) (heeds_loop q m))
      (took_keep q from m is ok) (All_reading (hears_on from q) (heeds_loop q m) (heeds_keep q m is))

  takes_message_keep : (q : Port) (from : Place) (m : MessageValue) → Ok from (Good (Message m)) → LeadsAll (Each P) (takes_message q from m) (Each P)
  unfolding takes_message
  takes_message_keep q from m ok = record {
    run = λ x past all.
        let row = takes (steers q x past) (in_charge q x past) from (Good (Message m)) in
        (stirring_keep q (stirred_ports q m.kind) row (k.takes (steers q x past) (in_charge q x past) from (Good (Message m)) ok)).run x past all;
  }

  takes_kind_keep : (q : Port) (from : Place) (m : MessageValue) (k : Kind) → m.kind ≡ k → Ok from (Good (Message m)) →
      LeadsAll (Each P) (takes_kind q from m k) (Each P)
  unfolding takes_kind
  takes_kind_keep q from m LoopKind is ok = takes_loop_keep q from m is ok
  takes_kind_keep q from m _ is ok = takes_message_keep q from m ok

  takes_keep : (q : Port) (from : Place) (t : Taken) → Ok from t → LeadsAll (Each P) (takes_on q from t) (Each P)
  unfolding takes_on
  takes_keep q from (Good (Message m)) ok = takes_kind_keep q from m m.kind refl ok
  takes_keep q from (Good (Stamp s)) ok = on_keep q (takes true true from (Good (Stamp s))) (k.takes true true from (Good (Stamp s)) ok)
  takes_keep q from (Bad fault) ok = on_keep q (takes true true from (Bad fault)) (k.takes true true from (Bad fault) ok)

  input_keep : (g : NodeGiven) → OkGiven Ok g → LeadsAll (Each P) (input_all g) (Each P)
  unfolding input_all
  input_keep NodeTurn ok = nothing_keep
  input_keep (GotOn q from t) ok = takes_keep q from t ok

  -- what a node answers
  pub answers_keep : (g : NodeGiven) → OkGiven Ok g → LeadsAll (Each P) (answers_all g) (Each P)
  unfolding answers_all
  answers_keep g ok = All_after (reading_all all_ports (for_ports turns_on)) (input_all g)
      (All_reading all_ports (for_ports turns_on) (λ ports. list_each P k.family turns_on ports turns_keep)) (input_keep g ok)
