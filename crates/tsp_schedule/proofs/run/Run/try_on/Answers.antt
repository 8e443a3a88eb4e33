-- A turn or a take, or a line with octets.
use Rattle.std.proofs.Common.{◌∙◌, subst}
use Rattle.std.proofs.lemmas.Bool.{MatchBool-at_true, MatchBool-at_false}
use Rattle.tsp_lines.proofs.Fronts.{line_ahead_front, IsAhead_front}
use Rattle.tsp_schedule.proofs.StageLemmas.{Advances_by_event}
use Rattle.tsp_schedule.specs.{Schedules.Running as RunningAt, Stages.AdvancesByEvent, declared.stage.Stage.TheVariants.Running}
use Rattle.tsp_base.specs.Words.{event_in}
use Rattle.tsp_schedule.proofs.run.Run.try_on.Goals as goal

pub returns-then-try_plain-clause-tries : goal.returns-then-try_plain-clause-tries
returns-then-try_plain-clause-tries g c header events w =
    let f = c.in-Some.ensures.1 in
    let e = event_in c.in-Some.plain in
    let t = MatchBool-at_true _ _ c.if-try_plain.true (c.try_plain.ensures.next header events w) in
    let a = Advances_by_event g.C.EventHandler.refused g.C.EventHandler.stands header events e f.0 (Running c.try_plain.new.self) f.4 t.0
    (c.try_plain.ensures.over ∙ c.requires, t.1) in
    subst (λ l. AdvancesByEvent g.C.EventHandler.refused g.C.EventHandler.stands (RunningAt header events) l (Running c.try_plain.new.self))
    (line_ahead_front c.args.text.now f.0 c.in-Some.count (f.1, f.2, f.3)) a

pub returns-then-try_plain-clause-front : goal.returns-then-try_plain-clause-front
returns-then-try_plain-clause-front g c = let f = c.in-Some.ensures.1 in IsAhead_front c.args.text.now f.0 c.in-Some.count (f.1, f.2, f.3)

pub returns-else-try_plain-clause-tries : goal.returns-else-try_plain-clause-tries
returns-else-try_plain-clause-tries g c header events w = (
  c.try_plain.ensures.over ∙ c.requires,
  MatchBool-at_false _ _ c.if-try_plain.false (c.try_plain.ensures.next header events w),
)
