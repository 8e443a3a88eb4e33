-- One request is posted.
use Rattle.tsp_master.proofs.RoomLemmas.{put_once}
use Rattle.tsp_master.proofs.master.Master.ask.Goals as goal

pub returns-clause-room : goal.returns-clause-room
returns-clause-room g c = put_once 0 0 _ c.put.ensures.spare c.put.ensures.acts
