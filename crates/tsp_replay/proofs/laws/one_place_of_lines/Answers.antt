use Rattle.tsp_schedule.proofs.OneReading.{Reaches_one}
use Rattle.tsp_replay.specs.Schedules.{refused}
use Rattle.tsp_replay.proofs.laws.one_place_of_lines.Goals as goal

pub returns : goal.returns
returns c = Reaches_one refused
