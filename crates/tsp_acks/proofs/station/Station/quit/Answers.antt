-- One act is put.
use Rattle.tsp_base.proofs.FrameLemmas.{PutsExactly_put}
use Rattle.tsp_acks.proofs.station.Station.quit.Goals as goal

pub returns-clause-room : goal.returns-clause-room
returns-clause-room g c = PutsExactly_put _ c.put.ensures.spare c.put.ensures.acts
