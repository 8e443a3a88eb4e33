use Rattle.std.proofs.Common.{inl, inr, refl}
use Rattle.tsp_storm.proofs.Ends.{said_part}
use Rattle.tsp_storm.proofs.run.say.Goals as goal

pub returns-in-WriteFault-clause-says : goal.returns-in-WriteFault-clause-says
returns-in-WriteFault-clause-says g c = said_part _ _ _ _ _ c.in-Err.cut.at (inl refl) c.in-Err.ensures.cut.0 c.in-Err.ensures.cut.1

pub returns-in-OutOfMemory-clause-says : goal.returns-in-OutOfMemory-clause-says
returns-in-OutOfMemory-clause-says g c = said_part _ _ _ _ _ c.in-Err.cut.at (inr refl) c.in-Err.ensures.cut.0 c.in-Err.ensures.cut.1
