-- A line of the schedule or a claimed one was read, or refused.
use Rattle.std.proofs.Common.{subst, sym, MatchResult}
use Rattle.tsp_audit_command.specs.declared.check.AuditInput.TheVariants.{Schedule}
use Rattle.tsp_audit_command.specs.Stands.{AdvancesReading, HaltsReading, ReadsSchedule}
use Rattle.tsp_schedule.proofs.StageLemmas.{MatchResult_map}
use Rattle.tsp_audit_command.proofs.StandLemmas.{Advances_held, Advances_last, Advances_open, Halts_held, scheduling_held}
use Rattle.tsp_audit_command.proofs.check.AuditInput.advance.Goals as goal

pub returns-in-Claims-clause-next : goal.returns-in-Claims-clause-next
returns-in-Claims-clause-next c r stands =
    MatchResult_map c.line.result c.line.ensures (λ _ a. Advances_held r c.args.self.now c.in-Claims.claiming c.line.new.self c.args.line.now c.in-Claims.is
    stands a)
    (λ stop h. Halts_held r c.args.self.now c.in-Claims.claiming c.args.line.now stop c.in-Claims.is stands h)

pub returns-in-Ok-false-clause-next : goal.returns-in-Ok-false-clause-next
returns-in-Ok-false-clause-next c r stands =
    let s = scheduling_held r c.args.self.now c.in-Schedule.stage c.in-Schedule.is stands in
    let reads = subst (λ b. ReadsSchedule s.0 c.args.line.now c.read_on.new.stage b) c.in-Ok-false.field-0-test (c.in-Ok-false.ensures.next s.0 s.2) in
    subst (λ x. AdvancesReading x c.args.line.now (Schedule c.read_on.new.stage)) (sym s.1) (Advances_open s.0 c.args.line.now c.read_on.new.stage reads)

pub returns-in-Ok-true-clause-next : goal.returns-in-Ok-true-clause-next
returns-in-Ok-true-clause-next c r stands =
    let s = scheduling_held r c.args.self.now c.in-Schedule.stage c.in-Schedule.is stands in
    let reads = subst (λ b. ReadsSchedule s.0 c.args.line.now c.read_on.new.stage b) c.in-Ok-true.field-0-test (c.in-Ok-true.ensures.next s.0 s.2) in
    subst (λ x. MatchResult c.claim.result (λ _. AdvancesReading x c.args.line.now c.claim.new.self) (HaltsReading x c.args.line.now)) (sym s.1)
    (Advances_last s.0 c.args.line.now c.read_on.new.stage c.claim.new.self c.claim.result reads c.claim.ensures.next)
