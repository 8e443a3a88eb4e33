-- A boot is refused, or it happens after room was made for it, or memory lacks.
use Rattle.tsp_rules.specs.Values.{BootAt}
use Rattle.std.proofs.Common.{refl}
use Rattle.tsp_world.proofs.Occurrences.{can_step, declined, lacks_memory, may, occurred}
use Rattle.tsp_world.proofs.world.World.boot.Goals as goal

pub returns-in-Some : goal.returns-in-Some
returns-in-Some c = declined (BootAt c.args.at c.args.node c.args.word) c.args.self.now c.bars_boot.result c.in-Some.fault (c.bars_boot.ensures c.args.word)
    c.in-Some.is

pub returns-then-is_err : goal.returns-then-is_err
returns-then-is_err c = lacks_memory (BootAt c.args.at c.args.node c.args.word) c.args.self.now c.make_room.new.self c.bars_boot.result
    (c.bars_boot.ensures c.args.word) c.in_default.is c.make_room.ensures.stands

pub start-requires-clause-able : goal.start-requires-clause-able
start-requires-clause-able c = can_step (BootAt c.args.at c.args.node c.args.word) c.args.at c.args.node c.args.self.now c.make_room.new.self c.bars_boot.result
    (c.bars_boot.ensures c.args.word) c.in_default.is c.make_room.ensures.same refl c.requires refl

pub start-requires-clause-node : goal.start-requires-clause-node
start-requires-clause-node c = (may (BootAt c.args.at c.args.node c.args.word) c.args.self.now c.make_room.new.self c.bars_boot.result
    (c.bars_boot.ensures c.args.word) c.in_default.is c.make_room.ensures.same).node

pub returns-in-Ok : goal.returns-in-Ok
returns-in-Ok c = occurred (BootAt c.args.at c.args.node c.args.word) c.args.self.now c.make_room.new.self c.start.new.self c.bars_boot.result
    (c.bars_boot.ensures c.args.word) c.in_default.is c.make_room.ensures.stands c.in-Ok.ensures.happens

pub returns-in-Err : goal.returns-in-Err
returns-in-Err c = lacks_memory (BootAt c.args.at c.args.node c.args.word) c.args.self.now c.start.new.self c.bars_boot.result (c.bars_boot.ensures c.args.word)
    c.in_default.is
    (λ header events w. c.in-Err.ensures.kept header events (c.make_room.ensures.stands header events w))
