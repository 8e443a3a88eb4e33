use Rattle.tsp_replay.proofs.ReadHeaders.{IsSchedule_header}
use Rattle.tsp_replay.proofs.laws.header_of_a_text.Goals as goal

pub returns : goal.returns
returns c = IsSchedule_header
