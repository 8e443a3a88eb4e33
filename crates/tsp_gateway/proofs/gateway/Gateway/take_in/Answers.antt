-- A LOOP, which is noted and judged where its sender is heard; another message, or what is none.
use Rattle.std.proofs.Common.{◌≡◌, ◌∙◌, ap, arith, false, rules, sym, true}
use Rattle.tsp_rules.specs.GateRows.{hears_on, heeds_loop, takes_kind, takes_loop, takes_on}
use Rattle.tsp_rules.specs.{NodeRows.nothing_at_all, Values.Message, Values.Good, Values.LoopKind}
use Rattle.tsp_rules.proofs.NodeRowLemmas.{All_then}
use Rattle.tsp_gateway.specs.{GatewayStands.port_at, Rooms.peers_sum}
use Rattle.tsp_gateway.proofs.LiftLemmas.{All_nothing, All_reading, All_row}
use Rattle.tsp_gateway.proofs.TakeLemmas.{loop_on, message_on, message_taken_on, other_on}
use Rattle.tsp_gateway.proofs.gateway.Gateway.take_in.Goals as goal

pub returns-else-hears-clause-row : goal.returns-else-hears-clause-row
unfolding takes_loop heeds_loop nothing_at_all
returns-else-hears-clause-row g c =
    let q = port_at c.args.q in
    let m = c.in-Good-Message.m in
    let is : c.args.taken.now ≡ Good (Message m) = search rules in
    let kind : m.kind ≡ LoopKind = sym c.kind.ensures ∙ c.in-Loop.is in
    All_row (loop_on q c.args.from m ∙ ap (takes_kind q c.args.from m) (sym kind) ∙ message_taken_on q c.args.from m ∙ ap (takes_on q c.args.from) (sym is))
    (All_then (rw is at c.note.ensures.row) (All_reading (hears_on c.args.from q) (heeds_loop q m) false (λ past h. sym (c.hears.ensures c.args.tick past h) ∙
    c.if-hears.false) All_nothing))

pub returns-in_default-kind-clause-row : goal.returns-in_default-kind-clause-row
returns-in_default-kind-clause-row g c =
    let q = port_at c.args.q in
    let m = c.in-Good-Message.m in
    let is : c.args.taken.now ≡ Good (Message m) = search rules in
    All_row (message_on q c.args.from m m.kind (λ e. c.in_default-kind.not-Loop (c.kind.ensures ∙ e)) ∙ message_taken_on q c.args.from m ∙
    ap (takes_on q c.args.from) (sym is)) c.take_message.ensures.row

pub returns-in_default-clause-row : goal.returns-in_default-clause-row
returns-in_default-clause-row g c = All_row (other_on (port_at c.args.q) c.args.from c.args.taken.now (search rules)) c.take_other.ensures.row

pub hears-requires : goal.hears-requires
hears-requires g c = rw c.note.ensures.ports c.requires.port

pub judge_loop-requires-clause-port : goal.judge_loop-requires-clause-port
judge_loop-requires-clause-port g c = rw c.note.ensures.ports c.requires.port

pub judge_loop-requires-clause-room : goal.judge_loop-requires-clause-room
judge_loop-requires-clause-room g c = omega (arith, ap peers_sum c.note.ensures.ports, c.note.ensures.room.spare, c.requires.room)

pub returns-then-hears : goal.returns-then-hears
unfolding takes_loop heeds_loop
returns-then-hears g c =
    let q = port_at c.args.q in
    let m = c.in-Good-Message.m in
    let is : c.args.taken.now ≡ Good (Message m) = search rules in
    let kind : m.kind ≡ LoopKind = sym c.kind.ensures ∙ c.in-Loop.is in
    let same = ap peers_sum c.note.ensures.ports in
    let note = c.note.ensures.room in
    let judge = c.judge_loop.ensures.room in
    record {
      row = All_row (loop_on q c.args.from m ∙ ap (takes_kind q c.args.from m) (sym kind) ∙ message_taken_on q c.args.from m ∙ ap (takes_on q c.args.from)
          (sym is))
          (All_then (rw is at c.note.ensures.row) (All_reading (hears_on c.args.from q) (heeds_loop q m) true
          (λ past h. sym (c.hears.ensures c.args.tick past h) ∙ c.if-hears.true) c.judge_loop.ensures.row));
      ports = c.judge_loop.ensures.ports ∙ c.note.ensures.ports;
      clock = rw (c.judge_loop.ensures.clock, c.note.ensures.clock) c.requires.tick.1;
      room = record { spare = omega (arith, same, note.spare, judge.spare); few = omega (arith, same, note.few, judge.few) };
    }

pub returns-else-hears-clause-room : goal.returns-else-hears-clause-room
returns-else-hears-clause-room g c = let note = c.note.ensures.room in record { spare = omega (arith, note.spare); few = omega (arith, note.few) }

pub returns-in_default-kind-clause-room : goal.returns-in_default-kind-clause-room
returns-in_default-kind-clause-room g c = let room = c.take_message.ensures.room in record { spare = omega (arith, room.spare); few = omega (arith, room.few) }

pub returns-in_default-clause-room : goal.returns-in_default-clause-room
returns-in_default-clause-room g c = let room = c.take_other.ensures.room in record { spare = omega (arith, room.spare); few = omega (arith, room.few) }
