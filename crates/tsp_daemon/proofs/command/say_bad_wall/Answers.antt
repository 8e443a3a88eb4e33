use Rattle.std.proofs.Common.{inl, inr, refl}
use Rattle.tsp_query.proofs.OutsideLemmas.{Says_cut}
use Rattle.tsp_daemon.proofs.command.say_bad_wall.Goals as goal

pub returns-in-WriteFault-clause-says : goal.returns-in-WriteFault-clause-says
returns-in-WriteFault-clause-says g c = Says_cut _ _ _ _ _ _ _ _ c.in-Err.cut.at refl (inl refl) c.in-Err.ensures.cut.0 c.in-Err.ensures.cut.1

pub returns-in-OutOfMemory-clause-says : goal.returns-in-OutOfMemory-clause-says
returns-in-OutOfMemory-clause-says g c = Says_cut _ _ _ _ _ _ _ _ c.in-Err.cut.at refl (inr refl) c.in-Err.ensures.cut.0 c.in-Err.ensures.cut.1
