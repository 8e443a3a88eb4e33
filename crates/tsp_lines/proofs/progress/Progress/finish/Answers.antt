use Rattle.std.proofs.Common.{ap, ◌∙◌, Err}
use Rattle.tsp_lines.specs.Turns.{end_sayings}
use Rattle.tsp_lines.proofs.Leaving.{Counts_from, Counts_fault, Counts_stopped, Ok_no_error, not_others}
use Rattle.tsp_lines.proofs.Outputs.{Ends_broken, Ends_end, Ends_closed, Breaks_closed}
use Rattle.tsp_lines.proofs.progress.Progress.finish.Goals as goal

pub returns-in-Err-clause-ends : goal.returns-in-Err-clause-ends
returns-in-Err-clause-ends g c = λ lines text stands accepts.
    Ends_end g.T.Treatment.meaning lines _ _ _ _ c.args.self.now.output c.end.new.output c.stop.new.self.output c.in-Err.stop c.stop.result
    (c.in-Err.ensures.ends lines text stands accepts)
    (λ e. (c.in-Err.ensures.cause (ap Err e)).1)
    c.stop.ensures.stops

pub returns-in-Err-clause-writes : goal.returns-in-Err-clause-writes
returns-in-Err-clause-writes g c =
    Counts_stopped _ _ _ c.in-Err.stop c.stop.result c.in-Err.ensures.later (λ e. (c.in-Err.ensures.cause (ap Err e)).0)
    (λ n. c.in-Err.ensures.still (λ e. n (cc))) (λ e. (rw e at c.stop.ensures.stops).0) c.stop.ensures.writes

pub returns-in-Err-flush-clause-ends : goal.returns-in-Err-flush-clause-ends
returns-in-Err-flush-clause-ends g c = λ lines text stands accepts.
    rw c.outcome_of.ensures (Ends_broken (end_sayings g.T.Treatment.meaning lines c.args.self.now.number) _ _ _ c.flush.new.self c.in-Err-flush.fault
    (Breaks_closed g.T.Treatment.meaning lines c.args.self.now.number _ _ _ c.args.self.now.output c.end.new.output c.flush.new.self
    (c.in_default.ensures.ends lines text stands accepts) c.flush.ensures.hands)
    (λ e. (c.flush.ensures.cause (c.in-Err-flush.is ∙ ap Err e)).1))

pub returns-in-Err-flush-clause-writes : goal.returns-in-Err-flush-clause-writes
returns-in-Err-flush-clause-writes g c =
    Counts_fault _ _ c.flush.result c.in-Err-flush.fault c.outcome_of.result c.outcome_of.ensures c.in-Err-flush.is
    (Counts_from _ _ _ _ _ (c.in_default.ensures.still (Ok_no_error _ _)) (λ e. e) (λ e. e) (record {
      later = c.flush.ensures.later;
      cause = λ e. (c.flush.ensures.cause e).0;
      still = c.flush.ensures.still;
    }))

pub returns-in-Err-flush-clause-kind : goal.returns-in-Err-flush-clause-kind
returns-in-Err-flush-clause-kind g c = (not_others c.in-Err-flush.fault c.outcome_of.result c.outcome_of.ensures).0

pub returns-in-Ok-clause-ends : goal.returns-in-Ok-clause-ends
returns-in-Ok-clause-ends g c = λ lines text stands accepts.
    Ends_closed g.T.Treatment.meaning lines c.args.self.now.number _ _ _ c.args.self.now.output c.end.new.output c.flush.new.self
    (c.in_default.ensures.ends lines text stands accepts) c.flush.ensures.hands c.in-Ok.ensures.ok
