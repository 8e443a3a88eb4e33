-- What the calls of a port's turn make of its node.
use Rattle.std.proofs.Common.{sym, subst, ap, arith, eqb-true, true≢false, ◌∙◌, ◌≡◌, ◌≢◌, ℕ, ◌<◌, ◌≤◌, ◌+◌, ◌==◌, Bool, true, false, List, [], ◌∷◌, Some, None}
use Rattle.std.proofs.Common.{slice_get, refl, append-nil, ◌||◌, ◌&&◌, nat_le, if◌then◌else◌, ◌++◌, length, leb-false, not, Option}
use Rattle.std.proofs.{Math.ListN.set, lemmas.Bool.and_parts, lemmas.Bool.and_right, lemmas.Bool.lt-leb, lemmas.Bool.not-true}
use Rattle.tsp_rules.specs.Values.{Act, Correct, Placed, Alarm, Round, Probe, CloseAlarm, Port, Ring, Late, Abandon, PeerId, ALL}
use Rattle.tsp_rules.{specs.Answers.rings, specs.Answers.alarm_rings, proofs.Emits.Emits, proofs.Emits.Emits_more}
use Rattle.tsp_rules.specs.{Guards.is_due, Guards.is_in_time, Guards.is_over, SendRows.due_send, SendRows.due_sends, SendRows.repeats_send}
use Rattle.tsp_rules.specs.GateRows.{alarm_on, ends_probes, has_rung, is_last_probe, loops_after, probes_on, sends_loops, alarms_on, begins_round_on, closes_on}
use Rattle.tsp_rules.specs.GateRows.{each_on, turns_on}
use Rattle.tsp_rules.specs.{NodePerforms.PerformsAll, RoundRows.corrects, RoundRows.is_correct, RoundRows.abandons, RoundRows.probe_rings}
use Rattle.tsp_rules.specs.NodeRows.{NodePast, on, on_port, spread, abandons_on, for_ports, nothing_at_all, reading_all, stirring, ◌and_then◌}
use Rattle.tsp_rules.proofs.{FewActs.is_calm, FewActs.is_calm_act, Asides.on_other, CalmAlarms.calm_rings, CalmAlarms.moves_by}
use Rattle.tsp_rules.proofs.NodeRowLemmas.{Bootless, on_own, All_then, spread_append}
use Rattle.tsp_base.specs.Words.{Past, view, Performs, acting, taken, Row, grown, placed, Acts, Did, Seen, is_shared, seen_as, line_of, is_going, either_by}
use Rattle.tsp_base.specs.Words.{nothing, puts, ◌followed_by◌, least_deadline, for_each, reading, Sending, deadline_of, open_send}
use Rattle.tsp_base.proofs.ViewPlaces.{port_same}
use Rattle.tsp_clients.proofs.ClientLemmas.{TraceStands_by}
use Rattle.tsp_node.{specs.declared.part.Part.Part, proofs.TakeEmits.silent_trace, specs.Dues.IsPartDue}
use Rattle.tsp_node.proofs.{NodeLemmas.Performs_traced, NodeLemmas.untaken_by, DueLemmas.alarm_waits, DueLemmas.neither_over}
use Rattle.tsp_node.specs.NodeStands.{PortBegun, PortUntaken, PortValue, Traced, port_with, traced_with, PortStands}
use Rattle.tsp_gateway.specs.GatewayStands.{GatewayStands, GatewayTurning, TurnsFrom, port_at}
use Rattle.tsp_gateway.{proofs.AsideLemmas.acting_aside, proofs.AsideLemmas.taken_aside, specs.declared.gateway.Gateway.Gateway}
use Rattle.tsp_gateway.proofs.LiftLemmas.{All_on, bootless_by, bootless_silent, take_stands, All_same, All_stirred, All_unstirred, part_of}
use Rattle.tsp_gateway.specs.{Untold.Untold, Untold.upset_ports, Dues.Waits, Rooms.ports_in}
use Rattle.tsp_sends.specs.{Repeating.IsEarliest, Repeating.is_due_send, Slots.sending_to}
use Rattle.tsp_clock.specs.Clocks.{ClockValue}

calm_correct : (a : Act) → is_calm_act false false a ≡ true → is_correct a ≡ false
calm_correct (Correct amount stepped shown) e = absurd (true≢false (sym e))
calm_correct _ e = refl

-- calm acts don't correct
pub calm_corrects : (acts : List Act) → is_calm false false acts ≡ true → corrects acts ≡ false
calm_corrects [] e = refl
calm_corrects (a ∷ later) e =
    let both = and_parts (is_calm_act false false a) (is_calm false false later) e in
    rw (calm_correct a both.0) (calm_corrects later both.1)

-- an alarm but a Close doesn't correct
pub rings_still : (own wait : Bool) (alarm : Alarm) → moves_by alarm ≡ false → (x : ℕ) (past : Past) → corrects (rings own wait alarm x past) ≡ false
rings_still own wait alarm still x past = calm_corrects (rings own wait alarm x past)
    ((calm_rings {strange = false} {moving = false} own wait alarm (λ e. sym still ∙ e)).calm x past)

-- an alarm that is none of a round is its port's alone
pub alarm_alone : (q : Port) (alarm : Alarm) → alarm ≢ Probe → alarm ≢ CloseAlarm → alarm ≢ Round → on q (rings true false alarm) ≡ alarm_on q alarm
unfolding alarm_on
alarm_alone q Probe p c r = absurd (p refl)
alarm_alone q CloseAlarm p c r = absurd (c refl)
alarm_alone q Round p c r = absurd (r refl)
alarm_alone q _ p c r = refl

-- only a Close moves the clock
pub moves_not : (alarm : Alarm) → alarm ≢ CloseAlarm → moves_by alarm ≡ false
moves_not CloseAlarm c = absurd (c refl)
moves_not _ c = refl

-- acts of a port that take nothing keep what no port has taken, and what later ports have done
turned_acts : (q j k x : ℕ) (past : NodePast) (acts : List Act) → Bootless acts → taken (grown x (on_port (port_at q) past) acts).seen ≡ None → q < k → j ≤ k →
    TurnsFrom j past → TurnsFrom k (spread x past (placed (port_at q) acts))
turned_acts q j k x past acts b own lt le h = record {
  untaken = λ r. by_case r (q == r.0) refl;
  still = λ r from. later r from (q == r.0) refl;
} where
  by_case : (r : Port) (b : Bool) → (q == r.0) ≡ b → taken (view r (spread x past (placed (port_at q) acts)).lines) ≡ None
  by_case r true is =
      subst (λ (p : Port). taken (on_port p (spread x past (placed (port_at q) acts))).seen ≡ None) (port_same (port_at q) r is)
      (ap (λ (p : Past). taken p.seen) (on_own (port_at q) x past acts) ∙ own)
  by_case r false is = ap (λ (p : Past). taken p.seen) (on_other (port_at q) r x past acts is b) ∙ taken_aside x (on_port r past) acts ∙ h.untaken r

  later : (r : Port) → k ≤ r.0 → (b : Bool) → (q == r.0) ≡ b → acting (view r (spread x past (placed (port_at q) acts)).lines) ≡ false
  later r from true is = let same = eqb-true q r.0 is in let bad : ⊥ = omega (arith, same, from, lt) in absurd bad
  later r from false is = ap (λ (p : Past). acting p.seen) (on_other (port_at q) r x past acts is b) ∙ acting_aside x (on_port r past) acts ∙
      h.still r (omega (arith, le, from))

pub turned : {row : Row} (q j k x : ℕ) (past : NodePast) → Emits silent_trace row → q < k → j ≤ k → TurnsFrom j past →
    TurnsFrom k (spread x past (on (port_at q) row x past))
unfolding on
turned {row} q j k x past e lt le h =
    turned_acts q j k x past (row x (on_port (port_at q) past)) (bootless_by (bootless_silent e) x (on_port (port_at q) past))
    (untaken_by row (Emits_more silent_trace refl e) x (on_port (port_at q) past) (h.untaken (port_at q))) lt le h

-- a call in a port's turn
pub All_turning : {row : Row} {x : ℕ} {g h : Gateway} {old new : List Placed} (q j k : ℕ) → Emits silent_trace row → q < k → j ≤ k →
    PerformsAll (GatewayTurning j) GatewayStands (on (port_at q) row) x g h old new →
    PerformsAll (GatewayTurning j) (GatewayTurning k) (on (port_at q) row) x g h old new
All_turning {x = x} q j k e lt le d = record {
  acts = d.acts;
  stands = λ past w. record {
    stands = d.stands past w;
    turns = turned q j k x past e lt le w.turns;
  };
}

pub trace_beside : {P Q : Past → PortValue → Type 0} {row : Row} {x q : ℕ} {old new : List Placed} (g h : Gateway) (before after : Part) →
    Emits silent_trace row → h.tracing ≡ g.tracing → Performs P Q row x (port_at q) (port_with before g.clock) (port_with after h.clock) old new →
    Performs (Traced P) (Traced Q) row x (port_at q) (traced_with before g.clock g.tracing) (traced_with after h.clock h.tracing) old new
trace_beside {P} {Q} {row} {x} {q} {old} {new} g h before after e same d =
    subst (λ t. Performs (Traced P) (Traced Q) row x (port_at q) (traced_with before g.clock g.tracing) (traced_with after h.clock t) old new) (sym same)
    (Performs_traced g.tracing (TraceStands_by row (Emits_more silent_trace refl e)) d)

-- a port's due sends
pub All_sent : {x q : ℕ} {g h : Gateway} {before : Part} {old new : List Placed} (after : Part) (row : Row) → Emits silent_trace row →
    ((y : ℕ) (past : Past) → corrects (row y past) ≡ false) → slice_get g.ports.items q ≡ Some before → h.ports.items ≡ set g.ports.items q after →
    h.tracing ≡ g.tracing → Performs PortBegun PortBegun row x (port_at q) (port_with before g.clock) (port_with after h.clock) old new →
    PerformsAll (GatewayTurning q) (GatewayTurning (q + 1)) (on (port_at q) row) x g h old new
All_sent {x} {q} {g} {h} {before} after row e still was is same d =
    All_turning q q (q + 1) e (omega arith) (omega arith)
    (All_on {W = GatewayTurning q} {P = Traced PortBegun} {Q = Traced PortBegun} false before after (bootless_silent e)
    (λ past w. still x (on_port (port_at q) past)) is (λ past w. w.stands)
    (λ past w. let t = take_stands q past g before was w.stands in record {
      port = record {
        stands = t.port;
        untaken = w.turns.untaken (port_at q);
        still = w.turns.still (port_at q) (omega arith);
      };
      trace = t.trace;
    })
    (λ past t. record { port = t.port.stands; trace = t.trace }) (trace_beside g h before after e same d))

-- a port's alarm that doesn't correct
pub All_rung : {x q : ℕ} {g h : Gateway} {before : Part} {old new : List Placed} (after : Part) (row : Row) → Emits silent_trace row →
    ((y : ℕ) (past : Past) → corrects (row y past) ≡ false) → slice_get g.ports.items q ≡ Some before → h.ports.items ≡ set g.ports.items q after →
    h.tracing ≡ g.tracing → Performs PortUntaken PortUntaken row x (port_at q) (port_with before g.clock) (port_with after h.clock) old new →
    PerformsAll (GatewayTurning (q + 1)) (GatewayTurning (q + 1)) (on (port_at q) row) x g h old new
All_rung {x} {q} {g} {h} {before} after row e still was is same d =
    All_turning q (q + 1) (q + 1) e (omega arith) (omega arith)
    (All_on {W = GatewayTurning (q + 1)} {P = Traced PortUntaken} {Q = Traced PortUntaken} false before after (bootless_silent e)
    (λ past w. still x (on_port (port_at q) past)) is (λ past w. w.stands)
    (λ past w. let t = take_stands q past g before was w.stands in record {
      port = record { stands = t.port; untaken = w.turns.untaken (port_at q) };
      trace = t.trace;
    })
    (λ past t. record { port = t.port.stands; trace = t.trace }) (trace_beside g h before after e same d))

-- what a correction in a port's turn makes of its node

-- an Abandon on whatever port
abandon_seen : (b : Bool) (d : Did) (before : List Seen) → d.deed ≡ Acts Abandon → (taken (seen_as b d ∷ before) ≡ taken before) ×
    (acting (seen_as b d ∷ before) ≡ acting before)
abandon_seen true d before e = rw e (refl, refl)
abandon_seen false d before e = (refl, refl)

abandoned_one : (k x : ℕ) (q : Port) (past : NodePast) → TurnsFrom k past → TurnsFrom k (spread x past (abandons_on q x past))
unfolding abandons_on
abandoned_one k x q past h = by_case (is_going (view q past.lines)) where
  by_case : (b : Bool) → TurnsFrom k (spread x past (if b then record { port = q; act = Abandon } ∷ [] else []))
  by_case true = record {
    untaken = λ r. (abandon_seen ((q.0 == r.0) || is_shared (Acts Abandon)) (line_of past.step x q (Acts Abandon)).did (view r past.lines) refl).0 ∙
        h.untaken r;
    still = λ r le. (abandon_seen ((q.0 == r.0) || is_shared (Acts Abandon)) (line_of past.step x q (Acts Abandon)).did (view r past.lines) refl).1 ∙
        h.still r le;
  }
  by_case false = record { untaken = h.untaken; still = h.still }

abandoned_all : (k x : ℕ) (ports : List Port) (past : NodePast) → TurnsFrom k past → TurnsFrom k (spread x past (for_ports abandons_on ports x past))
unfolding for_ports nothing_at_all ◌and_then◌
abandoned_all k x [] past h = record { untaken = h.untaken; still = h.still }
abandoned_all k x (q ∷ later) past h =
    let first = abandons_on q x past in
    subst (TurnsFrom k) (sym (spread_append x past first (for_ports abandons_on later x (spread x past first))))
    (abandoned_all k x later (spread x past first) (abandoned_one k x q past h))

stirred_turned : {row : Row} (q k x : ℕ) (ports : List Port) (past : NodePast) → Emits silent_trace row → q < k → TurnsFrom k past →
    TurnsFrom k (spread x past (stirring (port_at q) ports row x past))
unfolding stirring
stirred_turned {row} q k x ports past e lt h = by_case (corrects (row x (on_port (port_at q) past))) where
  by_case : (b : Bool) → TurnsFrom k (spread x past (on (port_at q) row x past ++
      (if b then for_ports abandons_on ports x (spread x past (on (port_at q) row x past)) else [])))
  by_case true =
      let first = on (port_at q) row x past in
      subst (TurnsFrom k) (sym (spread_append x past first (for_ports abandons_on ports x (spread x past first))))
      (abandoned_all k x ports (spread x past first) (turned q k k x past e lt (omega arith) h))
  by_case false = subst (λ acts. TurnsFrom k (spread x past acts)) (sym (append-nil (on (port_at q) row x past))) (turned q k k x past e lt (omega arith) h)

-- a port in its turn, which has taken nothing
pub untaken_there : (j q : ℕ) (past : NodePast) (g : Gateway) (part : Part) → slice_get g.ports.items q ≡ Some part → GatewayTurning j past g →
    PortUntaken (on_port (port_at q) past) (port_with part g.clock)
untaken_there j q past g part was w = record { stands = w.stands.ports q part was; untaken = w.turns.untaken (port_at q) }

turning_stirred : {x : ℕ} {g h : Gateway} {old new : List Placed} (q : ℕ) (row : Row) → Emits silent_trace row →
    PerformsAll (GatewayTurning (q + 1)) GatewayStands (λ y past. stirring (port_at q) (upset_ports false (port_at q) y past) row y past) x g h old new →
    PerformsAll (GatewayTurning (q + 1)) (GatewayTurning (q + 1)) (λ y past. stirring (port_at q) (upset_ports false (port_at q) y past) row y past) x g h old
    new
turning_stirred {x} q row e d = record {
  acts = d.acts;
  stands = λ past w. record {
    stands = d.stands past w;
    turns = stirred_turned q (q + 1) x (upset_ports false (port_at q) x past) past e (omega arith) w.turns;
  };
}

-- a port's alarm that corrects
pub All_upset : {x q : ℕ} {g h i : Gateway} {before : Part} {old mid new : List Placed} (after : Part) (row : Row) → Emits silent_trace row →
    ((past : NodePast) → GatewayTurning (q + 1) past g → corrects (row x (on_port (port_at q) past)) ≡ true) →
    slice_get g.ports.items q ≡ Some before → h.ports.items ≡ set g.ports.items q after → h.tracing ≡ g.tracing →
    Performs PortUntaken PortUntaken row x (port_at q) (port_with before g.clock) (port_with after h.clock) old mid →
    PerformsAll (Untold q x) GatewayStands (reading_all (upset_ports false (port_at q)) (for_ports abandons_on)) x h i mid new →
    PerformsAll (GatewayTurning (q + 1)) (GatewayTurning (q + 1)) (λ y past. stirring (port_at q) (upset_ports false (port_at q) y past) row y past) x g i old
    new
All_upset {x} {q} {g} {h} {i} {before} after row e moves was is same d upset =
    turning_stirred q row e (All_stirred {W = GatewayTurning (q + 1)} q row false moves
    (All_on {W = GatewayTurning (q + 1)} {P = Traced PortUntaken} {Q = Traced PortUntaken} true before after (bootless_silent e) moves is (λ past w. w.stands)
    (λ past w. record { port = untaken_there (q + 1) q past g before was w; trace = (take_stands q past g before was w.stands).trace })
    (λ past t. record { port = t.port.stands; trace = t.trace }) (trace_beside g h before after e same d)) upset)

-- a port's alarm that might have
pub All_calm : {x q : ℕ} {g h : Gateway} {before : Part} {old new : List Placed} (after : Part) (row : Row) → Emits silent_trace row →
    ((past : NodePast) → GatewayTurning (q + 1) past g → corrects (row x (on_port (port_at q) past)) ≡ false) →
    slice_get g.ports.items q ≡ Some before → h.ports.items ≡ set g.ports.items q after → h.tracing ≡ g.tracing →
    Performs PortUntaken PortUntaken row x (port_at q) (port_with before g.clock) (port_with after h.clock) old new →
    PerformsAll (GatewayTurning (q + 1)) (GatewayTurning (q + 1)) (λ y past. stirring (port_at q) (upset_ports false (port_at q) y past) row y past) x g h old
    new
All_calm {x} {q} {g} {h} {before} after row e still was is same d =
    turning_stirred q row e (All_unstirred {W = GatewayTurning (q + 1)} q row false still
    (All_on {W = GatewayTurning (q + 1)} {P = Traced PortUntaken} {Q = Traced PortUntaken} false before after (bootless_silent e) still is (λ past w. w.stands)
    (λ past w. record { port = untaken_there (q + 1) q past g before was w; trace = (take_stands q past g before was w.stands).trace })
    (λ past t. record { port = t.port.stands; trace = t.trace }) (trace_beside g h before after e same d)))

-- a Probe rings where it is due and in time
pub probe_rung : (x : ℕ) (past : Past) → has_rung (rings true false Probe x past) ≡ (is_due Probe x past && is_in_time Probe x past)
unfolding rings either_by alarm_rings probe_rings puts ◌followed_by◌ nothing abandons
probe_rung x past = by_case (is_due Probe x past) (is_in_time Probe x past) _ _ where
  by_case : (b c : Bool) (xs ys : List Act) → has_rung (if b then (if c then Ring Probe ∷ xs else Late Probe ∷ ys) else []) ≡ (b && c)
  by_case true true xs ys = refl
  by_case true false xs ys = refl
  by_case false c xs ys = refl

-- a Probe after which LOOPs set out
pub All_looped : {x : ℕ} {g h i : Gateway} {old mid new : List Placed} (q k : ℕ) →
    PerformsAll (GatewayTurning k) (GatewayTurning k) (on (port_at q) (rings true false Probe)) x g h old mid →
    PerformsAll (GatewayTurning k) (GatewayTurning k) (on (port_at q) (sends_loops (port_at q))) x h i mid new →
    ((past : NodePast) → GatewayTurning k past g → (is_due Probe x (on_port (port_at q) past) && is_in_time Probe x (on_port (port_at q) past)) ≡ true) →
    ((past : NodePast) → GatewayStands past h → (is_last_probe (on_port (port_at q) past) && nat_le 2 (length past.ports)) ≡ true) →
    PerformsAll (GatewayTurning k) (GatewayTurning k) (probes_on (port_at q)) x g i old new
unfolding probes_on ◌and_then◌ loops_after
All_looped {x} q k d e rung last = All_same (probes_on (port_at q)) (λ past w.
    let ends : ends_probes (rings true false Probe x (on_port (port_at q) past)) (on_port (port_at q)
    (spread x past (on (port_at q) (rings true false Probe) x past))) past.ports ≡ true =
    ap (λ b. b && (is_last_probe (on_port (port_at q) (spread x past (on (port_at q) (rings true false Probe) x past))) && nat_le 2 (length past.ports)))
    (probe_rung x (on_port (port_at q) past) ∙ rung past w)
    ∙ last (spread x past (on (port_at q) (rings true false Probe) x past)) (d.stands past w).stands in
    rw ends refl) (All_then d e)

-- a Probe after which none do
pub All_loopless : {x : ℕ} {g h : Gateway} {old new : List Placed} (q k : ℕ) → PerformsAll (GatewayTurning k) (GatewayTurning k)
    (on (port_at q) (rings true false Probe)) x g h old new →
    ((past : NodePast) → GatewayTurning k past g → ends_probes (rings true false Probe x (on_port (port_at q) past))
    (on_port (port_at q) (spread x past (on (port_at q) (rings true false Probe) x past))) past.ports ≡ false) →
    PerformsAll (GatewayTurning k) (GatewayTurning k) (probes_on (port_at q)) x g h old new
unfolding probes_on ◌and_then◌ loops_after
All_loopless {x} q k d none = All_same (probes_on (port_at q)) (λ past w. rw (none past w) (sym (append-nil (on (port_at q) (rings true false Probe) x past))))
    d

-- it doesn't ring, or it isn't the last
pub no_loops : (x q : ℕ) (past later : NodePast) → (is_due Probe x (on_port (port_at q) past) && is_in_time Probe x (on_port (port_at q) past)) ≡ false →
    ends_probes (rings true false Probe x (on_port (port_at q) past)) (on_port (port_at q) later) past.ports ≡ false
no_loops x q past later e = ap (λ b. b && (is_last_probe (on_port (port_at q) later) && nat_le 2 (length past.ports)))
    (probe_rung x (on_port (port_at q) past) ∙ e)

pub not_last : (x q : ℕ) (past later : NodePast) → (is_last_probe (on_port (port_at q) later) && nat_le 2 (length past.ports)) ≡ false →
    ends_probes (rings true false Probe x (on_port (port_at q) past)) (on_port (port_at q) later) past.ports ≡ false
not_last x q past later e = ap (λ b. has_rung (rings true false Probe x (on_port (port_at q) past)) && b) e ∙
    and_right (has_rung (rings true false Probe x (on_port (port_at q) past))) false refl

-- A port with nothing due has nothing to do in its turn

-- no send is due before the earliest is
send_waits : (sending : PeerId → Option Sending) (first : Option ℕ) (x : ℕ) → IsEarliest sending first → is_over first x ≡ false → (p : PeerId) →
    is_due_send x (sending p) ≡ false
send_waits sending None x none e p = rw (none p) refl
send_waits sending (Some t) x least e p = by_send (sending p) refl where
  by_send : (o : Option Sending) → sending p ≡ o → is_due_send x o ≡ false
  by_send None is = refl
  by_send (Some s) is = let before = leb-false t x e in let first = least.first p s is in lt-leb (deadline_of s) x (omega (arith, before, first))

-- rows of sends and alarms that aren't due
no_send : (p : PeerId) (x : ℕ) (past : Past) → is_due_send x (open_send p past.seen) ≡ false → due_send p x past ≡ []
unfolding due_send repeats_send reading either_by nothing
no_send p x past e = by_send (open_send p past.seen) e where
  by_send : (o : Option Sending) → is_due_send x o ≡ false → repeats_send p o x past ≡ []
  by_send None e = refl
  by_send (Some s) e = rw e refl

no_sends : (peers : List PeerId) (x : ℕ) (past : Past) → ((p : PeerId) → is_due_send x (open_send p past.seen) ≡ false) → for_each due_send peers x past ≡ []
unfolding for_each nothing ◌followed_by◌
no_sends [] x past e = refl
no_sends (p ∷ rest) x past e = rw (no_send p x past (e p)) (no_sends rest x past e)

no_alarm : (q : Port) (alarm : Alarm) (x : ℕ) (past : NodePast) → is_due alarm x (on_port q past) ≡ false → alarm_on q alarm x past ≡ []
unfolding alarm_on probes_on closes_on begins_round_on loops_after rings on reading_all stirring either_by nothing ◌and_then◌
no_alarm q Round x past e = rw e refl
no_alarm q _ x past e = rw e refl

no_alarms : (q : Port) (alarms : List Alarm) (x : ℕ) (past : NodePast) → ((alarm : Alarm) → is_due alarm x (on_port q past) ≡ false) → each_on q alarms x past ≡
    []
unfolding nothing_at_all ◌and_then◌
no_alarms q [] x past e = refl
no_alarms q (a ∷ []) x past e = no_alarm q a x past (e a)
no_alarms q (a ∷ b ∷ rest) x past e = rw (no_alarm q a x past (e a)) (no_alarms q (b ∷ rest) x past e)

no_alarms_on : (q : Port) (x : ℕ) (past : NodePast) → ((alarm : Alarm) → is_due alarm x (on_port q past) ≡ false) → alarms_on q x past ≡ []
unfolding alarms_on
no_alarms_on q x past e = no_alarms q ALL x past e

-- where the earliest deadline of a port hasn't come, nothing of it is due
pub Waits_before : (x : ℕ) (part : Part) (due : Option ℕ) → IsPartDue part due → is_over due x ≡ false → Waits x part
Waits_before x part due d e =
    let both = neither_over (least_deadline part.station.alarms) d.sends x (rw d.due_is at e) in
    record { alarms = alarm_waits part.station.alarms x both.0; sends = send_waits (sending_to part.station.sends) d.sends x d.first both.1 }

-- the turn of a port of which nothing is due
no_turn : (q : Port) (x : ℕ) (past : NodePast) (part : Part) (clock : ClockValue) → PortStands (on_port q past) (port_with part clock) → Waits x part →
    turns_on q x past ≡ []
unfolding turns_on on due_sends reading ◌and_then◌
no_turn q x past part clock h waits =
    let sends : (p : PeerId) → is_due_send x (open_send p (on_port q past).seen) ≡ false = λ p. ap (is_due_send x) (sym (h.station.sends p)) ∙ waits.sends p in
    rw (no_sends (on_port q past).peers x (on_port q past) sends) (no_alarms_on q x past (λ alarm. rw (← h.station.alarms) (waits.alarms alarm)))

-- the node does nothing in it
pub All_waits : {x q : ℕ} {g : Gateway} {old : List Placed} (part : Part) → slice_get g.ports.items q ≡ Some part → Waits x part →
    PerformsAll (GatewayTurning q) (GatewayTurning (q + 1)) (turns_on (port_at q)) x g g old old
All_waits {x} {q} {g} {old} part there waits = record {
  acts = λ past w. rw (no_turn (port_at q) x past part g.clock (w.stands.ports q part there) waits) (sym (append-nil old));
  stands = λ past w. rw (no_turn (port_at q) x past part g.clock (w.stands.ports q part there) waits) (record {
    stands = w.stands;
    turns = record { untaken = w.turns.untaken; still = λ r from. w.turns.still r (omega (arith, from)) };
  });
}

-- so where the port says that it is idle
pub idle_waits : (x q : ℕ) (g : Gateway) {old : List Placed} (idle : Bool) → q < length (ports_in g) → idle ≡ true →
    ((part : Part) → slice_get g.ports.items q ≡ Some part → (due : Option ℕ) × IsPartDue part due × (idle ≡ not (is_over due x))) →
    PerformsAll (GatewayTurning q) (GatewayTurning (q + 1)) (turns_on (port_at q)) x g g old old
idle_waits x q g idle lt e says =
    let part = part_of g q lt in
    let due = says part.0 part.1 in
    All_waits part.0 part.1 (Waits_before x part.0 due.0 due.1 (not-true (is_over due.0 x) (sym due.2 ∙ e)))
