use Rattle.std.proofs.Common.{ap, refl, Err, Some}
use Rattle.tsp_lines.proofs.{Outputs.Ends_line, Leaving.Counts_from, Leaving.Counts_stopped}
use Rattle.tsp_lines.proofs.progress.Progress.treat.Goals as goal

pub returns-in-Err-clause-treats : goal.returns-in-Err-clause-treats
returns-in-Err-clause-treats g c = λ lines text stands accepts room.
    Ends_line g.T.Treatment.meaning lines text c.args.self.now.number c.args.self.now.reader.line _ _ _ c.args.self.now.output c.treat.new.output
    c.stop.new.self.output c.in-Err.stop c.stop.result
    (rw c.line.ensures at (c.in-Err.ensures.treats lines text stands accepts room))
    (λ e. (c.in-Err.ensures.cause (ap Err e)).1)
    c.stop.ensures.stops

pub returns-in-Err-clause-writes : goal.returns-in-Err-clause-writes
returns-in-Err-clause-writes g c =
    Counts_from _ _ _ _ _ refl (λ e. cc) (ap Some)
    (Counts_stopped _ _ _ c.in-Err.stop c.stop.result c.in-Err.ensures.later (λ e. (c.in-Err.ensures.cause (ap Err e)).0)
    (λ n. c.in-Err.ensures.still (λ e. n (cc))) (λ e. (rw e at c.stop.ensures.stops).0) c.stop.ensures.writes)
