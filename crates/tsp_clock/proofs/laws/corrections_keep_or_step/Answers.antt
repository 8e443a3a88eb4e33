use Rattle.std.proofs.Common.{pos, ◌+ℤ◌}
use Rattle.tsp_clock.specs.Clocks.{slew_rest}
use Rattle.tsp_clock.proofs.Slewing.{no_time, stays_by, moves_by, none_left}
use Rattle.tsp_clock.proofs.laws.corrections_keep_or_step.Goals as goal
use Rattle.tsp_base.proofs.TickLemmas.{eased_none}

pub returns : goal.returns
returns c = record {
  moves = λ v x y amount. moves_by v.offset amount y;
  stays = λ v x amount h. rw (h, no_time x, eased_none (slew_rest v x +ℤ amount)) (stays_by v.offset (slew_rest v x) amount x);
  steps = λ v x amount h. rw (h, no_time x, eased_none (pos 0)) (none_left ((v.offset +ℤ amount) +ℤ pos x));
}
