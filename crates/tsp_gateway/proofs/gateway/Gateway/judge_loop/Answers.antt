-- What is made of the LOOP.
use Rattle.std.proofs.Common.{◌∙◌, arith, get_or, length, sym, ap, ◌≡◌, ◌<◌, ℕ, ◌&&◌, nat_le, nat_lt, Bool, true, false, if◌then◌else◌, List, refl}
use Rattle.tsp_rules.specs.GateRows.{Forward, GiveUp, PassOver, takes_loop_step, LoopStep, hops_in, judge, judges, one_hop_less, same_name}
use Rattle.tsp_rules.specs.{NodeRows.nothing_at_all, NodePerforms.PerformsAll, Values.Placed, Values.Port, Values.HOPS}
use Rattle.tsp_gateway.proofs.{AnyLemmas.station_there, LiftLemmas.All_nothing, LiftLemmas.All_same}
use Rattle.tsp_acks.specs.declared.station.Station.{Station}
use Rattle.tsp_node.specs.declared.part.Part.{Part}
use Rattle.tsp_gateway.specs.{GatewayStands.port_at, GatewayStands.GatewayStands, Rooms.ports_in, declared.gateway.Gateway.Gateway}
use Rattle.tsp_gateway.proofs.gateway.Gateway.judge_loop.Goals as goal
use Rattle.tsp_base.specs.Words.{MessageValue}

-- what a node makes of a LOOP

-- judged alike by equal names, numbers and ports
judge_same : (own name : List ℕ) (many count : ℕ) (p q : Port) (m : MessageValue) (step : LoopStep) → own ≡ name → many ≡ count → p ≡ q → step ≡
    judge own many p m → judge name count q m ≡ step
judge_same own name many count p q m step e f g is = rw (sym e, sym f, sym g) (sym is)

-- a LOOP that is passed on is of the same kind
forward_kind : (own : List ℕ) (many : ℕ) (p : Port) (m next : MessageValue) → Forward next ≡ judge own many p m → next.kind ≡ m.kind
forward_kind own many p m next is = by_case (nat_le 2 many) (same_name m.name own) (nat_lt m.number p.0) (nat_le 1 (hops_in m.body) && nat_le (hops_in m.body)
    HOPS) is where
      by_case : (a b c d : Bool) → Forward next ≡ (if a then (if b then (if c then GiveUp else PassOver) else
          (if d then Forward (one_hop_less m) else PassOver))
          else PassOver) → next.kind ≡ m.kind
      by_case true true true d e = let bad : ⊥ = cc in absurd bad
      by_case true true false d e = let bad : ⊥ = cc in absurd bad
      by_case true false c true e = let same : next ≡ one_hop_less m = cc in ap (λ (n : MessageValue). n.kind) same
      by_case true false c false e = let bad : ⊥ = cc in absurd bad
      by_case false b c d e = let bad : ⊥ = cc in absurd bad

-- a LOOP is judged by what the port's station and the node know
All_judged : {x many q : ℕ} {g h : Gateway} {old new : List Placed} {part : Part} {station : Station} {p : Port} (m : MessageValue) (step : LoopStep) →
    q < length (ports_in g) → part ≡ get_or g.ports.items q part → station ≡ part.station → many ≡ length g.ports.items → p ≡ port_at q →
    step ≡ judge station.me.name many p m → PerformsAll GatewayStands GatewayStands (takes_loop_step (port_at q) step) x g h old new →
    PerformsAll GatewayStands GatewayStands (judges (port_at q) m) x g h old new
unfolding judges
All_judged {many = many} {q = q} {g = g} {part = part} {station = station} {p = p} m step lt is same count e judged d =
    All_same (judges (port_at q) m)
    (λ past h.
    let s = station_there past g q part station lt is same h in
    let now = judge_same station.me.name past.name many (length past.ports) p (port_at q) m step s.name (count ∙ h.many) e judged in
    rw now refl)
    d

pub forward-requires : goal.forward-requires
forward-requires g c = record {
  kind = forward_kind c.station.result.now.me.name c.many.result c.port_at.result c.args.m.now c.in-Forward.next (c.in-Forward.ensures) ∙ c.requires.kind;
  room = omega (arith, c.requires.room);
}

pub returns-in-PassOver-clause-row : goal.returns-in-PassOver-clause-row
unfolding takes_loop_step nothing_at_all
returns-in-PassOver-clause-row g c =
    All_judged c.args.m.now PassOver c.requires.port c.index.ensures c.station.ensures c.many.ensures c.port_at.ensures c.in-PassOver.ensures All_nothing

pub returns-in-GiveUp-clause-row : goal.returns-in-GiveUp-clause-row
unfolding takes_loop_step
returns-in-GiveUp-clause-row g c =
    All_judged c.args.m.now GiveUp c.requires.port c.index.ensures c.station.ensures c.many.ensures c.port_at.ensures c.in-GiveUp.ensures c.give_up.ensures.row

pub returns-in-Forward-clause-row : goal.returns-in-Forward-clause-row
unfolding takes_loop_step
returns-in-Forward-clause-row g c =
    All_judged c.args.m.now (Forward c.in-Forward.next) c.requires.port c.index.ensures c.station.ensures c.many.ensures c.port_at.ensures c.in-Forward.ensures
    (c.forward.ensures.row c.args.tick)

pub judge-requires : goal.judge-requires
judge-requires g c = c.requires.kind

pub returns-in-PassOver-clause-room : goal.returns-in-PassOver-clause-room
returns-in-PassOver-clause-room g c = record { spare = omega arith; few = omega arith }

pub returns-in-GiveUp-clause-room : goal.returns-in-GiveUp-clause-room
returns-in-GiveUp-clause-room g c = let room = c.give_up.ensures.room in record { spare = omega (arith, room.spare); few = omega (arith, room.few) }

pub returns-in-Forward-clause-room : goal.returns-in-Forward-clause-room
returns-in-Forward-clause-room g c = let room = c.forward.ensures.room in record { spare = omega (arith, room.spare); few = omega (arith, room.few) }
