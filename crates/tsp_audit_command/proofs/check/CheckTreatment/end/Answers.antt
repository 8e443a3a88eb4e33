-- The input ends within the schedule, or behind it.
use Rattle.std.proofs.Common.{◌∙◌, sym}
use Rattle.tsp_lines.proofs.Outputs.{Hands_nil}
use Rattle.tsp_audit_command.proofs.StandLemmas.{Ends_claims, Ends_schedule}
use Rattle.tsp_audit_command.proofs.check.CheckTreatment.end.Goals as goal

pub returns-in-Schedule-clause-ends : goal.returns-in-Schedule-clause-ends
returns-in-Schedule-clause-ends g c lines text stands accepts = (
  Hands_nil _ _,
  (
    accepts.0,
    accepts.1,
    Ends_schedule lines accepts.0 c.args.self.now.held c.in-Schedule.stage c.missing.result
        (sym c.replace.ensures.value ∙ c.in-Schedule.is) accepts.1 (stands accepts.0 accepts.1) c.missing.ensures,
  ),
)

pub returns-in-Claims-clause-ends : goal.returns-in-Claims-clause-ends
returns-in-Claims-clause-ends g c lines text stands accepts =
    Ends_claims lines accepts.0 c.args.self.now.held c.in-Claims.claiming (g.K.Sink.written c.args.sink.now) c.args.output.now
    (g.K.Sink.written c.conclude.new.sink) c.conclude.new.output c.conclude.result (sym c.replace.ensures.value ∙
    c.in-Claims.is) accepts.1 (stands accepts.0 accepts.1) c.conclude.ensures.ends

pub returns-in-Claims-clause-later : goal.returns-in-Claims-clause-later
returns-in-Claims-clause-later g c = c.conclude.ensures.later

pub returns-in-Claims-clause-cause : goal.returns-in-Claims-clause-cause
returns-in-Claims-clause-cause g c = c.conclude.ensures.cause

pub returns-in-Claims-clause-still : goal.returns-in-Claims-clause-still
returns-in-Claims-clause-still g c = c.conclude.ensures.still
