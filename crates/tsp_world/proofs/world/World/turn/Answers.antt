-- A turn is refused, or it happens after room was made for it, or memory lacks.
use Rattle.tsp_rules.specs.Values.{Turn}
use Rattle.std.proofs.Common.{refl, rules, ◌∙◌}
use Rattle.tsp_world.proofs.Occurrences.{can_step, declined, lacks_memory, may, occurred}
use Rattle.tsp_world.proofs.WorldLemmas.{WorldStands_rested}
use Rattle.tsp_world.proofs.world.World.turn.Goals as goal

pub returns-in-Some : goal.returns-in-Some
returns-in-Some c = declined (Turn c.args.at c.args.node) c.args.self.now c.bars_turn.result c.in-Some.fault c.bars_turn.ensures c.in-Some.is

pub pass-requires-clause-order : goal.pass-requires-clause-order
pass-requires-clause-order c = (may (Turn c.args.at c.args.node) c.args.self.now c.idles.new.self c.bars_turn.result c.bars_turn.ensures c.in_default.is
    c.idles.ensures.same).time

pub pass-requires-clause-events : goal.pass-requires-clause-events
pass-requires-clause-events c = (may (Turn c.args.at c.args.node) c.args.self.now c.idles.new.self c.bars_turn.result c.bars_turn.ensures c.in_default.is
    c.idles.ensures.same).events

pub returns-then-idles : goal.returns-then-idles
returns-then-idles c = occurred (Turn c.args.at c.args.node) c.args.self.now c.idles.new.self c.pass.new.self c.bars_turn.result c.bars_turn.ensures
    c.in_default.is c.idles.ensures.stands
    (WorldStands_rested c.args.at c.args.node c.idles.new.self c.pass.new.self (search rules) (may (Turn c.args.at c.args.node) c.args.self.now c.idles.new.self
    c.bars_turn.result c.bars_turn.ensures c.in_default.is c.idles.ensures.same).node (c.idles.ensures.idles c.if-idles.true) c.pass.ensures)

pub returns-then-is_err : goal.returns-then-is_err
returns-then-is_err c = lacks_memory (Turn c.args.at c.args.node) c.args.self.now c.make_room.new.self c.bars_turn.result c.bars_turn.ensures c.in_default.is
    (λ header events w. c.make_room.ensures.stands header events (c.idles.ensures.stands header events w))

pub look-requires-clause-able : goal.look-requires-clause-able
look-requires-clause-able c = can_step (Turn c.args.at c.args.node) c.args.at c.args.node c.args.self.now c.make_room.new.self c.bars_turn.result
    c.bars_turn.ensures c.in_default.is (c.make_room.ensures.same ∙ c.idles.ensures.same) refl c.requires refl

pub returns : goal.returns
returns c = occurred (Turn c.args.at c.args.node) c.args.self.now c.make_room.new.self c.look.new.self c.bars_turn.result c.bars_turn.ensures c.in_default.is
    (λ header events w. c.make_room.ensures.stands header events (c.idles.ensures.stands header events w)) c.look.ensures
