-- Each alarm has its call.
use Rattle.std.proofs.Common.{◌≡◌, ◌∙◌, arith, sym}
use Rattle.tsp_rules.specs.{GateRows.alarm_on, GateRows.begins_round_on, GateRows.waits, Values.Round, Values.Probe, Values.CloseAlarm}
use Rattle.tsp_gateway.specs.{GatewayStands.port_at, Rooms.peers_at, Rooms.ports_in}
use Rattle.tsp_gateway.proofs.{AlarmsLemmas.little_room, LiftLemmas.All_reading, TurnLemmas.alarm_alone}
use Rattle.tsp_gateway.proofs.gateway.Gateway.ring_alarm.Goals as goal

pub probe-requires : goal.probe-requires
probe-requires g c =
    let room = rw c.in-Probe.is at c.requires.room in
    record { port = c.requires.port; room = omega (arith, room); tick = c.requires.tick; later = c.requires.later }

pub close-requires : goal.close-requires
close-requires g c =
    let room = rw c.in-Close.is at c.requires.room in
    record { port = c.requires.port; room = omega (arith, room); tick = c.requires.tick; later = c.requires.later; order = c.requires.order c.in-Close.is }

pub returns-in-Probe : goal.returns-in-Probe
returns-in-Probe g c =
    let room = c.probe.ensures.room in
    record {
      row = rw c.in-Probe.is c.probe.ensures.row;
      over = λ e. c.probe.ensures.over;
      ports = c.probe.ensures.ports;
      clock = c.probe.ensures.clock;
      room = rw c.in-Probe.is (record { spare = omega (arith, room.spare); few = omega (arith, room.few) });
    }

pub returns-in-Close : goal.returns-in-Close
returns-in-Close g c =
    let room = c.close.ensures.room in
    record {
      row = rw c.in-Close.is c.close.ensures.row;
      over = λ e. let same : CloseAlarm ≡ Probe = sym c.in-Close.is ∙ e in let bad : ⊥ = cc in absurd bad;
      ports = c.close.ensures.ports;
      clock = c.close.ensures.clock;
      room = rw c.in-Close.is (record { spare = omega (arith, room.spare); few = omega (arith, room.few) });
    }

pub any_other-wait-requires : goal.any_other-wait-requires
any_other-wait-requires g c = c.requires.port

pub ring-requires-clause-room : goal.ring-requires-clause-room
ring-requires-clause-room g c = let few = little_room c.args.alarm (peers_at c.args.q (ports_in c.args.self.now)) in omega (arith, few, c.requires.room)

pub ring-requires-in_default-clause-room : goal.ring-requires-in_default-clause-room
ring-requires-in_default-clause-room g c = let few = little_room c.args.alarm (peers_at c.args.q (ports_in c.args.self.now)) in
    omega (arith, few, c.requires.room)

pub returns-in-Round-clause-row : goal.returns-in-Round-clause-row
unfolding alarm_on begins_round_on
returns-in-Round-clause-row g c =
    let q = port_at c.args.q in
    let row = rw c.in-Round.is at c.ring.ensures.row in
    rw c.in-Round.is (All_reading (waits q) (begins_round_on q) c.any_other-wait.result (λ past h. sym (c.any_other-wait.ensures past h.stands)) row)

pub returns-in_default : goal.returns-in_default
returns-in_default g c =
    let ring = c.ring-in_default.ensures in
    let other = c.in_default in
    let few = little_room c.args.alarm (peers_at c.args.q (ports_in c.args.self.now)) in
    record {
      row = rw (← alarm_alone (port_at c.args.q) c.args.alarm other.not-Probe other.not-Close other.not-Round) ring.row;
      over = ring.over;
      ports = ring.ports;
      clock = ring.clock;
      room = record { spare = omega (arith, few, ring.room.spare); few = omega (arith, few, ring.room.few) };
    }

pub ring-requires-clause-alarm : goal.ring-requires-clause-alarm
ring-requires-clause-alarm g c = λ e. let same : Round ≡ CloseAlarm = sym c.in-Round.is ∙ e in let bad : ⊥ = cc in bad

pub returns-in-Round-clause-over : goal.returns-in-Round-clause-over
returns-in-Round-clause-over g c = c.ring.ensures.over

pub returns-in-Round-clause-room : goal.returns-in-Round-clause-room
returns-in-Round-clause-room g c =
    let few = little_room c.args.alarm (peers_at c.args.q (ports_in c.args.self.now)) in
    let room = c.ring.ensures.room in
    record { spare = omega (arith, few, room.spare); few = omega (arith, few, room.few) }
