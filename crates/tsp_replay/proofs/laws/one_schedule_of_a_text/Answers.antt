use Rattle.tsp_replay.proofs.OneReading.{IsSchedule_one}
use Rattle.tsp_replay.proofs.laws.one_schedule_of_a_text.Goals as goal

pub returns : goal.returns
returns c = IsSchedule_one
