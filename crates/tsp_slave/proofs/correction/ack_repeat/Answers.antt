-- The row's test is the code's.
use Rattle.std.specs.Prelude.{refl}
use Rattle.tsp_base.specs.Words.{nothing, posts}
use Rattle.tsp_base.proofs.PerformsLemmas.{Performs_then_part, Performs_else_part, Performs_nothing}
use Rattle.tsp_rules.specs.{SlaveRows.acks_repeat, SlaveRows.is_repeated, Values.Ack}
use Rattle.tsp_slave.proofs.{BesideLemmas.Performs_station, RoomLemmas.at_most, SlaveLemmas.AlsoStands_posts}
use Rattle.tsp_slave.proofs.correction.ack_repeat.Goals as goal

pub returns-else-is_repeat-clause-row : goal.returns-else-is_repeat-clause-row
unfolding acks_repeat
returns-else-is_repeat-clause-row g c clock took =
    Performs_else_part (is_repeated c.args.correction.from c.args.correction.number) (posts c.args.correction.from Ack c.args.correction.number)
    (λ past h. let t = h.last.taken_is in cc) Performs_nothing

pub returns-then-is_repeat : goal.returns-then-is_repeat
unfolding acks_repeat
returns-then-is_repeat g c = record {
  row = λ clock took. Performs_then_part (is_repeated c.args.correction.from c.args.correction.number) nothing (λ past h. let t = h.last.taken_is in cc)
      (Performs_station (AlsoStands_posts c.args.correction.from Ack c.args.correction.number refl) (c.post.ensures.row c.args.at.tick));
  room = at_most 1 0 c.post.ensures.room;
}
