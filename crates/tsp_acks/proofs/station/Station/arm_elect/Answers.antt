-- The delay is that of the past's word.
use Rattle.tsp_base.{proofs.PerformsLemmas.Performs_reading, specs.Words.arms}
use Rattle.tsp_rules.specs.{CommonRows.arms_elect, Guards.delay_at, Values.Elect}
use Rattle.tsp_acks.proofs.station.Station.arm_elect.Goals as goal

pub returns-clause-row : goal.returns-clause-row
unfolding arms_elect
returns-clause-row g c = Performs_reading delay_at (arms Elect) _ (λ past s. let w = s.word in cc) c.arm.ensures.row
