use Rattle.tsp_daemon.proofs.LineLemmas.{cut_short}
use Rattle.tsp_daemon.proofs.lines.tell_line.Goals as goal

pub returns-in-WriteFault-clause-err : goal.returns-in-WriteFault-clause-err
returns-in-WriteFault-clause-err g c = cut_short _ c.in-Err.cut.at _ _ c.in-Err.ensures.cut.0 c.in-Err.ensures.cut.1

pub returns-in-OutOfMemory-clause-err : goal.returns-in-OutOfMemory-clause-err
returns-in-OutOfMemory-clause-err g c = cut_short _ c.in-Err.cut.at _ _ c.in-Err.ensures.cut.0 c.in-Err.ensures.cut.1
