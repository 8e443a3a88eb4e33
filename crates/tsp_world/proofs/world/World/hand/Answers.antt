-- Octets are refused, or taken after room was made for it, or memory lacks.
use Rattle.std.proofs.Common.{◌≡◌, ◌∙◌, ap, refl, rules, [], Some, vec_len, length}
use Rattle.tsp_base.specs.Words.{Handed}
use Rattle.tsp_rules.specs.{GateRows.GotOn, GateRows.answers_all, Values.Event, Values.Bytes}
use Rattle.tsp_run.{proofs.RefusalLemmas.refusal_none, proofs.RefusalLemmas.up_down, specs.Refusals.scene, specs.Run.run, specs.Run.steps}
use Rattle.tsp_world.proofs.Occurrences.{can_step, declined, lacks_memory, may, occurred}
use Rattle.tsp_world.{proofs.WorldLemmas.Alike_stands, specs.WorldStands.HappensInWorld}
use Rattle.tsp_world.proofs.world.World.hand.Goals as goal

pub returns-in-Some : goal.returns-in-Some
returns-in-Some c octets range is = declined (Bytes c.args.at c.args.node c.args.port c.args.from octets) c.args.self.now c.bars_bytes.result c.in-Some.fault
    (c.bars_bytes.ensures octets) c.in-Some.is

pub returns-then-is_err : goal.returns-then-is_err
returns-then-is_err c octets range is = lacks_memory (Bytes c.args.at c.args.node c.args.port c.args.from octets) c.args.self.now c.make_room.new.self
    c.bars_bytes.result (c.bars_bytes.ensures octets) c.in_default.is c.make_room.ensures.stands

pub receive-requires-clause-able : goal.receive-requires-clause-able
receive-requires-clause-able c = can_step (Bytes c.args.at c.args.node c.args.port c.args.from []) c.args.at c.args.node c.args.self.now c.make_room.new.self
    c.bars_bytes.result (c.bars_bytes.ensures []) c.in_default.is c.make_room.ensures.same refl c.requires refl

pub receive-requires-clause-node : goal.receive-requires-clause-node
receive-requires-clause-node c = (may (Bytes c.args.at c.args.node c.args.port c.args.from []) c.args.self.now c.make_room.new.self c.bars_bytes.result
    (c.bars_bytes.ensures []) c.in_default.is c.make_room.ensures.same).node.0

pub receive-requires-clause-port : goal.receive-requires-clause-port
receive-requires-clause-port c = (may (Bytes c.args.at c.args.node c.args.port c.args.from []) c.args.self.now c.make_room.new.self c.bars_bytes.result
    (c.bars_bytes.ensures []) c.in_default.is c.make_room.ensures.same).node.1

pub returns : goal.returns
returns c octets range is =
    let ready = c.make_room.new.self in
    let node = c.args.node in
    let e : Event = Bytes c.args.at node c.args.port c.args.from octets in
    let happens : HappensInWorld e ready c.receive.new.self = λ header events w none.
    let len : vec_len ready.nodes ≡ length ready.nodes.items = search rules in
    let up = (Alike_stands header events ready len w).up node ∙ up_down (scene header events) node (refusal_none (scene header events) e none).up in
    c.receive.ensures Handed header events e w refl range none up
    (ap (λ t. Some (steps header (run header events) (answers_all (GotOn c.args.port c.args.from t)) (record { at = c.args.at; node = node; cause = Handed })))
    is) in
    occurred e c.args.self.now ready c.receive.new.self c.bars_bytes.result (c.bars_bytes.ensures octets) c.in_default.is c.make_room.ensures.stands happens
