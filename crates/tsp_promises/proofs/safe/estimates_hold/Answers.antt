use Rattle.tsp_promises.proofs.safe.estimates_hold.Goals as goal
use Rattle.tsp_promises.proofs.promised.EstimatesProof.{estimates_hold}

pub returns : goal.returns
returns c = λ setting world f honest life. estimates_hold setting world (record { fits = f; honest = honest; life = life })
