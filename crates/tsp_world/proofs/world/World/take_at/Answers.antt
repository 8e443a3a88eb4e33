-- A take is refused, or it happens after room was made for it, or memory lacks.
use Rattle.tsp_rules.specs.Values.{Take}
use Rattle.tsp_world.proofs.Occurrences.{declined, lacks_memory, occurred}
use Rattle.tsp_world.proofs.world.World.take_at.Goals as goal

pub returns-in-Some : goal.returns-in-Some
returns-in-Some c = declined (Take c.args.at c.args.k) c.args.self.now c.bars_take.result c.in-Some.fault c.bars_take.ensures c.in-Some.is

pub returns-then-is_err : goal.returns-then-is_err
returns-then-is_err c = lacks_memory (Take c.args.at c.args.k) c.args.self.now c.make_room.new.self c.bars_take.result c.bars_take.ensures c.in_default.is
    c.make_room.ensures.stands

pub returns : goal.returns
returns c = occurred (Take c.args.at c.args.k) c.args.self.now c.make_room.new.self c.deliver.new.self c.bars_take.result c.bars_take.ensures c.in_default.is
    c.make_room.ensures.stands c.deliver.ensures
