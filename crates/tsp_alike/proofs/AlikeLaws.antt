-- What a node does over its ports, in each step and when it boots, it does alike on pasts that are alike.
use Rattle.std.proofs.Common.{sym, ap, ap₂, subst, arith, ◌∙◌, ◌≡◌, ℕ, ◌+◌, ◌<◌, ◌==◌, Bool, true, false, not, if◌then◌else◌, List, [], ◌∷◌, ◌++◌, length}
use Rattle.std.proofs.Common.{filter, map, refl}
use Rattle.std.proofs.lemmas.List.Elements.{All-nil, All-cons, All-filter}
use Rattle.tsp_rules.specs.Values.{Act, Abandon, Round, Probe, CloseAlarm, Alarm, Message, Stamp, Taken, Good, Bad, Placed, Kind, LoopKind, Place, Port, ALL}
use Rattle.tsp_rules.specs.Values.{Boot, Peer, Stranger}
use Rattle.tsp_rules.{specs.Answers.rings, specs.Answers.takes, specs.RoundRows.corrects, proofs.EmitsBuilt.nothing_taken}
use Rattle.tsp_rules.specs.GateRows.{NodeGiven, NodeTurn, GotOn, LoopStep, PassOver, GiveUp, Forward, alarm_on, alarms_on, all_ports, answers_all}
use Rattle.tsp_rules.specs.GateRows.{begins_round_on, boots_on, closes_on, each_on, ends_probes, forwards, hears_on, heeds_loop, in_charge, input_all}
use Rattle.tsp_rules.specs.GateRows.{is_awake_on, judge, judges, leads_clock, loops_after, other_ports, ports_from, probes_on, reposts_on, steers}
use Rattle.tsp_rules.specs.GateRows.{stirred_ports, takes_kind, takes_loop, takes_loop_step, takes_message, takes_on, turns_on, waits, boots_all}
use Rattle.tsp_rules.specs.NodeRows.{NodePast, NodeRow, abandons_on, for_ports, on, on_port, reading_all, spread, stirring, ◌and_then◌, in_node_step}
use Rattle.tsp_rules.specs.Renames.{Renaming, Knows, comes_place, renamed_act, renamed_place, Naming}
use Rattle.tsp_rules.proofs.{BuiltAnswers.built_rings, BuiltAnswers.built_takes, BuiltAnswers.built_took, BuiltSends.built_due_sends}
use Rattle.tsp_rules.proofs.BuiltGate.{built_loosens_master, built_reposts, built_sends_loops, built_starts}
use Rattle.tsp_base.specs.Words.{MessageValue, Row, puts, is_going, sets_date, view, first_port}
use Rattle.tsp_alike.proofs.{MovesBuilt.moves_built, Alike.Moves}
use Rattle.tsp_alike.specs.AlikeNodes.{TellsApart, renamed_given, AnswersAreAlike, Booted, BootsAreAlike, ComesOn}
use Rattle.tsp_alike.proofs.NodesAlike.{AllPorts, Life, NodeMoves, Pair, Steps, all_same, awake_same, corrects_renamed, ends_same, for_ports_move, goes_same}
use Rattle.tsp_alike.proofs.NodesAlike.{hears_same, in_charge_same, leads_clock_same, naming_on, none_at, nothing_moves, now, on_moves, other_same, port_alike}
use Rattle.tsp_alike.proofs.NodesAlike.{ports_below, steers_same, steps_alike, stirred_same, then_moves, waits_same, with_lines}

-- the node has this port
abbrev Has : Life → Port → Type 0
Has l q = q.0 < length l.ports

-- the node has its ports
all_below : (l : Life) → AllPorts l (ports_from 0 l.ports)
all_below l = ports_below 0 (length l.ports) l.ports (omega arith)

others_below : (l : Life) (q : Port) → AllPorts l (filter (λ r. not (r.0 == q.0)) (ports_from 0 l.ports))
others_below l q = All-filter (λ r. not (r.0 == q.0)) (λ (r : Port). r.0 < length l.ports) (ports_from 0 l.ports) (all_below l)

takes_move : {m : Naming} (steer charge : Bool) (from : Place) (t : Taken) → comes_place m from →
    Moves m (takes steer charge from t) (takes steer charge (renamed_place m.names from) t)
takes_move steer charge from t comes = moves_built (built_takes steer charge from t comes tt tt (nothing_taken t))

module _ {l : Life} where
  -- a row that is chosen by a fact that is the same on both sides
  chosen : {A : Type 0} (fact fact' : ℕ → NodePast → A) {rows rows' : A → NodeRow} → ((x : ℕ) (a : Pair l) → fact' (x + l.shift) a.other ≡ fact x (now a)) →
      ((c : A) → NodeMoves l (rows c) (rows' c)) → NodeMoves l (reading_all fact rows) (reading_all fact' rows')
  unfolding reading_all
  chosen fact fact' {rows} {rows'} same k = record {
    at = λ x a. subst (λ c. Steps x a (rows (fact x (now a)) x (now a)) (rows' c (x + l.shift) a.other)) (sym (same x a)) ((k (fact x (now a))).at x a);
  }

  -- a row that is done only if a test holds, which is the same on both sides
  guarded : (test test' : NodePast → Bool) {row row' : NodeRow} → ((a : Pair l) → test' a.other ≡ test (now a)) → NodeMoves l row row' →
      NodeMoves l (λ x past. if test past then row x past else []) (λ x past. if test' past then row' x past else [])
  guarded test test' {row} {row'} same k = record {
    at = λ x a. subst (λ b. Steps x a (if test (now a) then row x (now a) else []) (if b then row' (x + l.shift) a.other else [])) (sym (same a))
        (elim (test (now a)) as (λ b. Steps x a (if b then row x (now a) else []) (if b then row' (x + l.shift) a.other else []))
        [ true ↦ k.at x a | false ↦ none_at x a ]);
  }

  -- a row for each of some ports, which are the same on both sides
  ports_move : (qs : NodePast → List Port) {row row' : Port → NodeRow} → ((a : Pair l) → AllPorts l (qs (now a))) → ((a : Pair l) → qs a.other ≡ qs (now a)) →
      ((q : Port) → Has l q → NodeMoves l (row q) (row' q)) →
      NodeMoves l (λ x past. for_ports row (qs past) x past) (λ x past. for_ports row' (qs past) x past)
  ports_move qs {row} {row'} below same k = record {
    at = λ x a.
        subst (λ z. Steps x a (for_ports row (qs (now a)) x (now a)) (for_ports row' z (x + l.shift) a.other)) (sym (same a))
        ((for_ports_move k (qs (now a)) (below a)).at x a);
  }

  abandons_move : (q : Port) → NodeMoves l (abandons_on q) (abandons_on q)
  unfolding abandons_on
  abandons_move q =
      let act : Placed = record { port = q; act = Abandon } in
      let none = All-nil (λ (k : Placed). Knows (naming_on l k.port) k.act) in
      guarded (λ past. is_going (view q past.lines)) (λ past. is_going (view q past.lines)) (λ a. goes_same a q)
      (record { at = λ x a. steps_alike x a (act ∷ []) (act ∷ []) refl (All-cons (λ (k : Placed). Knows (naming_on l k.port) k.act) act [] tt none) })

  -- a port's row, and what it stirs on others
  stirs : (q : Port) {row row' : Row} (others : NodePast → List Port) → Has l q → Moves (naming_on l q) row row' →
      ((a : Pair l) → AllPorts l (others (now a))) → ((a : Pair l) → others a.other ≡ others (now a)) →
      NodeMoves l (λ x past. stirring q (others past) row x past) (λ x past. stirring q (others past) row' x past)
  unfolding stirring ◌and_then◌
  stirs q {row} {row'} others has k below same = record {
    at = λ x a.
        let b : Bool = corrects (row x (on_port q (now a))) in
        let m = k.at x (on_port q (now a)) (on_port q a.other) (port_alike q has a) in
        let b_is : corrects (row' (x + l.shift) (on_port q a.other)) ≡ b = ap (λ n. corrects (row' (x + n) (on_port q a.other))) (sym (a.alike.shifts q))
        ∙ ap corrects m.same ∙ corrects_renamed (l.names q) (row x (on_port q (now a))) in
        let both = (then_moves (on_moves q has k) (gives_up_holds b (others (now a)) (below a))).at x a in
        let ours : List Placed = on q row x (now a) ++ (if b then for_ports abandons_on (others (now a)) x (spread x (now a) (on q row x (now a))) else []) in
        let first : List Placed = on q row' (x + l.shift) a.other in
        let after : NodePast = spread (x + l.shift) a.other first in
        subst (λ c. Steps x a ours (first ++ (if c then for_ports abandons_on (others a.other) (x + l.shift) after else []))) (sym b_is)
        (subst (λ z. Steps x a ours (first ++ (if b then for_ports abandons_on z (x + l.shift) after else []))) (sym (same a)) both);
  } where
    gives_up_holds : (b : Bool) (qs : List Port) → AllPorts l qs → NodeMoves l (λ y past. if b then for_ports abandons_on qs y past else [])
        (λ y past. if b then for_ports abandons_on qs y past else [])
    gives_up_holds b qs has = guarded (λ past. b) (λ past. b) (λ a. refl) (for_ports_move (λ r h. abandons_move r) qs has)

  -- alarms
  loops_after_holds : (q : Port) → Has l q → (acts acts' : List Act) → acts' ≡ map (renamed_act (l.names q)) acts → NodeMoves l (loops_after q acts)
      (loops_after q acts')
  unfolding loops_after
  loops_after_holds q has acts acts' e =
      guarded (λ past. ends_probes acts (on_port q past) past.ports) (λ past. ends_probes acts' (on_port q past) past.ports)
      (λ a. ends_same a q has acts acts' e)
      (on_moves q has (moves_built (built_sends_loops q tt)))

  probes_move : (q : Port) → Has l q → NodeMoves l (probes_on q) (probes_on q)
  unfolding probes_on
  probes_move q has = record {
    at = λ x a.
        let row : Row = rings true false Probe in
        let k : Moves (naming_on l q) row row = moves_built (built_rings true false Probe) in
        let m = k.at x (on_port q (now a)) (on_port q a.other) (port_alike q has a) in
        let same = ap (λ n. row (x + n) (on_port q a.other)) (sym (a.alike.shifts q)) ∙ m.same in
        (then_moves (on_moves q has k) (loops_after_holds q has (row x (on_port q (now a))) (row (x + l.shift) (on_port q a.other)) same)).at x a;
  }

  alarm_moves : (q : Port) (alarm : Alarm) → Has l q → NodeMoves l (alarm_on q alarm) (alarm_on q alarm)
  unfolding alarm_on closes_on begins_round_on
  alarm_moves q Probe has = probes_move q has
  alarm_moves q CloseAlarm has = chosen (leads_clock q) (leads_clock q) (λ x a. leads_clock_same a q x)
      (λ own. stirs q (other_ports q) has (moves_built (built_rings own false CloseAlarm)) (λ a. others_below l q) (λ a. other_same a q))
  alarm_moves q Round has = chosen (waits q) (waits q) (λ x a. waits_same a q x) (λ wait. on_moves q has (moves_built (built_rings true wait Round)))
  alarm_moves q alarm has = on_moves q has (moves_built (built_rings true false alarm))

  alarms_move : (q : Port) → Has l q → (alarms : List Alarm) → NodeMoves l (each_on q alarms) (each_on q alarms)
  alarms_move q has [] = nothing_moves
  alarms_move q has (alarm ∷ []) = alarm_moves q alarm has
  alarms_move q has (alarm ∷ next ∷ rest) = then_moves (alarm_moves q alarm has) (alarms_move q has (next ∷ rest))

  turns_move : (q : Port) → Has l q → NodeMoves l (turns_on q) (turns_on q)
  unfolding turns_on alarms_on
  turns_move q has = then_moves (on_moves q has (moves_built built_due_sends)) (alarms_move q has ALL)

  -- a row for each port
  each_port : {row row' : Port → NodeRow} → ((q : Port) → Has l q → NodeMoves l (row q) (row' q)) → NodeMoves l (reading_all all_ports (for_ports row))
      (reading_all all_ports (for_ports row'))
  unfolding reading_all
  each_port k = ports_move (λ past. ports_from 0 past.ports) (λ a. all_below l) all_same k

  -- what is taken
  reposts_on_holds : (msg : MessageValue) (q : Port) → Has l q → NodeMoves l (reposts_on msg q) (reposts_on msg q)
  unfolding reposts_on
  reposts_on_holds msg q has = guarded (λ past. is_awake_on past q) (λ past. is_awake_on past q) (λ a. awake_same a q)
      (on_moves q has (moves_built (built_reposts msg tt)))

  step_moves : (q : Port) → Has l q → (s : LoopStep) → NodeMoves l (takes_loop_step q s) (takes_loop_step q s)
  unfolding takes_loop_step forwards
  step_moves q has PassOver = nothing_moves
  step_moves q has GiveUp = on_moves q has (moves_built built_loosens_master)
  step_moves q has (Forward msg) = ports_move (other_ports q) (λ a. others_below l q) (λ a. other_same a q) (reposts_on_holds msg)

  heeds_move : (q : Port) → Has l q → (msg : MessageValue) (b : Bool) → NodeMoves l (heeds_loop q msg b) (heeds_loop q msg b)
  unfolding heeds_loop judges reading_all
  heeds_move q has msg true =
      let fact : ℕ → NodePast → LoopStep = λ x past. judge past.name (length past.ports) q msg in
      chosen fact fact (λ x a. ap₂ (λ own n. judge own n q msg) a.alike.name a.alike.ports) (step_moves q has)
  heeds_move q has msg false = nothing_moves

  loop_moves : (q : Port) → Has l q → (from : Place) (msg : MessageValue) → NodeMoves l (takes_loop q from msg)
      (takes_loop q (renamed_place (l.names q) from) msg)
  unfolding takes_loop
  loop_moves q has from msg =
      then_moves (on_moves q has (moves_built (built_took from (Good (Message msg)) tt)))
      (chosen (hears_on from q) (hears_on (renamed_place (l.names q) from) q) (λ x a. hears_same a q has from x) (heeds_move q has msg))

  message_moves : (q : Port) → Has l q → (from : Place) (msg : MessageValue) → comes_place (naming_on l q) from → NodeMoves l (takes_message q from msg)
      (takes_message q (renamed_place (l.names q) from) msg)
  unfolding takes_message reading_all
  message_moves q has from msg comes =
      let t : Taken = Good (Message msg) in
      let fact : ℕ → NodePast → Bool × Bool = λ x past. (steers q x past, in_charge q x past) in
      let row : Place → Bool × Bool → NodeRow = λ f b x past. stirring q (stirred_ports q msg.kind past) (takes b.0 b.1 f t) x past in
      chosen fact fact {rows = row from} {rows' = row (renamed_place (l.names q) from)} (λ x a. ap₂ (λ b c. (b, c)) (steers_same a q x) (in_charge_same a q x))
      (λ b. stirs q (stirred_ports q msg.kind) has (takes_move b.0 b.1 from t comes) (λ a. stirred-below (sets_date msg.kind))
      (λ a. stirred_same a q msg.kind)) where
        stirred-below : (b : Bool) → AllPorts l (if b then ports_from 0 l.ports else filter (λ s. not (s.0 == q.0)) (ports_from 0 l.ports))
        stirred-below true = all_below l
        stirred-below false = others_below l q

  kind_moves : (q : Port) → Has l q → (from : Place) (msg : MessageValue) → comes_place (naming_on l q) from → (kind : Kind) → NodeMoves l
      (takes_kind q from msg kind) (takes_kind q (renamed_place (l.names q) from) msg kind)
  unfolding takes_kind
  kind_moves q has from msg comes LoopKind = loop_moves q has from msg
  kind_moves q has from msg comes _ = message_moves q has from msg comes

  takes_on_holds : (q : Port) → Has l q → (from : Place) → comes_place (naming_on l q) from → (t : Taken) → NodeMoves l (takes_on q from t)
      (takes_on q (renamed_place (l.names q) from) t)
  unfolding takes_on
  takes_on_holds q has from comes (Good (Message msg)) = kind_moves q has from msg comes msg.kind
  takes_on_holds q has from comes (Good (Stamp z)) = on_moves q has (takes_move true true from (Good (Stamp z)) comes)
  takes_on_holds q has from comes (Bad fault) = on_moves q has (takes_move true true from (Bad fault) comes)

  -- what is given comes on a port of the node, from one of its peers or a stranger
  input_moves : (a : Pair l) (g : NodeGiven) → ComesOn (now a) g → NodeMoves l (input_all g) (input_all (renamed_given l.names g))
  unfolding input_all
  input_moves a NodeTurn c = nothing_moves
  input_moves a (GotOn q (Peer from) t) c = takes_on_holds q c.0 (Peer from) c.1 t
  input_moves a (GotOn q Stranger t) c = takes_on_holds q c Stranger tt t

  answers_move : (a : Pair l) (g : NodeGiven) → ComesOn (now a) g → NodeMoves l (answers_all g) (answers_all (renamed_given l.names g))
  unfolding answers_all
  answers_move a g c = then_moves (each_port turns_move) (input_moves a g c)

  boots_move : (q : Port) → Has l q → NodeMoves l (boots_on q) (boots_on q)
  unfolding boots_on
  boots_move q has = on_moves q has (moves_built built_starts)

-- a node's life, from its past
abbrev life_of : (rs : Port → Renaming) → ((q : Port) → TellsApart (rs q)) → ℕ → NodePast → Life
life_of rs apart shift p = record { names = rs; apart = apart; shift = shift; ports = p.ports; may = p.may }

-- the laws: answers and boots are alike
pub answers_are_alike : AnswersAreAlike
answers_are_alike rs apart shift g x p p' a comes =
    let pair : Pair (life_of rs apart shift p) = record { name = p.name; strict = p.strict; step = p.step; lines = p.lines; other = p'; alike = a } in
    (answers_move pair g comes).at x pair

pub boots_are_alike : BootsAreAlike
unfolding boots_all on ◌and_then◌ puts
boots_are_alike rs apart shift x s s' p p' c same =
    let boot : Placed = record { port = first_port; act = Boot } in
    let begun : NodePast = spread x (in_node_step s x p) (boot ∷ []) in
    let begun' : NodePast = spread (x + shift) (in_node_step s' (x + shift) p') (boot ∷ []) in
    let pair : Pair (life_of rs apart shift p) = record {
      name = p.name;
      strict = p.strict;
      step = begun.step;
      lines = begun.lines;
      other = begun';
      alike = with_lines apart c begun.step begun'.step (Booted s s' same x p.lines p'.lines);
    } in
    let rest = (each_port boots_move).at x pair in
    record {
      rest = reading_all all_ports (for_ports boots_on) x begun;
      is = refl;
      known = rest.known;
      same = ap (λ z. boot ∷ z) rest.same;
      after = rest.after;
    }
