-- What a node stands for doesn't rest on the step that it is in, and a step begins.
use Rattle.std.proofs.Common.{sym, subst, ap, ◌≡◌, ℕ, ◌==◌, true, ◌∷◌, refl}
use Rattle.std.proofs.lemmas.Bool.{or_right}
use Rattle.tsp_base.specs.Words.{Begins, Past, Step, seen_as, view, first_port, line_of, acting, taken, in_step}
use Rattle.tsp_rules.specs.NodeRows.{NodePast, in_node_step, on_port}
use Rattle.tsp_clock.specs.Clocks.{ClockValue}
use Rattle.tsp_master.proofs.TurnLemmas.{MasterStands_in_step, MasterStands_step}
use Rattle.tsp_node.specs.{NodeStands.PortStands, NodeStands.port_with, declared.part.Part.Part}
use Rattle.tsp_node.proofs.RivalKeeps.{ResolveStands_in_step, ResolveStands_step}
use Rattle.tsp_gateway.specs.declared.gateway.Gateway.{Gateway}
use Rattle.tsp_gateway.specs.GatewayStands.{GatewayBegun, GatewayStands, port_at}

part_step : (step : Step) (past : Past) (part : Part) (clock : ClockValue) → PortStands past (port_with part clock) →
    PortStands (record past { step = step }) (port_with part clock)
part_step step past part clock p = record {
  station = record {
    own = p.station.own;
    name = p.station.name;
    may = p.station.may;
    strict = p.station.strict;
    peers = p.station.peers;
    word = p.station.word;
    role = p.station.role;
    alarms = p.station.alarms;
    hold = p.station.hold;
    sends = p.station.sends;
    begun = p.station.begun;
    backers = p.station.backers;
  };
  last = record { tick_is = p.last.tick_is; taken_is = p.last.taken_is; name_is = p.last.name_is };
  master = MasterStands_step step past part.master p.master;
  resolve = ResolveStands_step step past part.resolve p.resolve;
  dates = record { peers = p.dates.peers; last = p.dates.last; asked = p.dates.asked };
  clock = record { offset_is = p.clock.offset_is; rest_is = p.clock.rest_is; at_is = p.clock.at_is; ticket_is = p.clock.ticket_is };
}

-- a node between its steps may be asked of another step
pub GatewayStands_step : (step : Step) (past : NodePast) (g : Gateway) → GatewayStands past g → GatewayStands (record past { step = step }) g
GatewayStands_step step past g h = record {
  many = h.many;
  traces = h.traces;
  ports = λ q part is. part_step step (on_port (port_at q) past) part g.clock
      (h.ports q part is);
}

part_in_step : (step : Step) (x : ℕ) (past : Past) (part : Part) (clock : ClockValue) → PortStands past (port_with part clock) →
    PortStands (in_step step x past) (port_with part clock)
part_in_step step x past part clock p = record {
  station = record {
    own = p.station.own;
    name = p.station.name;
    may = p.station.may;
    strict = p.station.strict;
    peers = p.station.peers;
    word = p.station.word;
    role = p.station.role;
    alarms = p.station.alarms;
    hold = p.station.hold;
    sends = p.station.sends;
    begun = p.station.begun;
    backers = p.station.backers;
  };
  last = record { tick_is = p.last.tick_is; taken_is = p.last.taken_is; name_is = p.last.name_is };
  master = MasterStands_in_step step x past part.master p.master;
  resolve = ResolveStands_in_step step x past part.resolve p.resolve;
  dates = record { peers = p.dates.peers; last = p.dates.last; asked = p.dates.asked };
  clock = record { offset_is = p.clock.offset_is; rest_is = p.clock.rest_is; at_is = p.clock.at_is; ticket_is = p.clock.ticket_is };
}

-- every port sees the mark where a step begins
pub mark_on : (q : ℕ) (step : Step) (x : ℕ) (past : NodePast) → on_port (port_at q) (in_node_step step x past) ≡ in_step step x (on_port (port_at q) past)
mark_on q step x past = ap (λ b. record (on_port (port_at q) (record past { step = step })) {
  seen = seen_as b (line_of step x first_port Begins).did ∷
      view (port_at q) past.lines;
}) (or_right (first_port.0 == q) true refl)

-- a step of a node that stands begins
pub GatewayBegun_in_step : (step : Step) (x : ℕ) (past : NodePast) (g : Gateway) → GatewayStands past g → GatewayBegun (in_node_step step x past) g
GatewayBegun_in_step step x past g h = record {
  stands = record {
    many = h.many;
    traces = h.traces;
    ports = λ q part is. subst (λ (p : Past). PortStands p (port_with part g.clock)) (sym (mark_on q step x past))
        (part_in_step step x (on_port (port_at q) past) part g.clock (h.ports q part is));
  };
  turns = record {
    untaken = λ r. ap (λ (p : Past). taken p.seen) (mark_on r.0 step x past);
    still = λ r le. ap (λ (p : Past). acting p.seen) (mark_on r.0 step x past);
  };
}
