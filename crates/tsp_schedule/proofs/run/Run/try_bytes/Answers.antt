-- An event with octets, which happens or is left.
use Rattle.std.proofs.Common.{◌∙◌, ◌+◌, length, take, subst}
use Rattle.std.proofs.lemmas.Bool.{MatchBool-at_true, MatchBool-at_false}
use Rattle.tsp_lines.proofs.Fronts.{line_ahead_front, IsAhead_front}
use Rattle.tsp_schedule.proofs.StageLemmas.{Advances_by_event}
use Rattle.tsp_schedule.specs.{Schedules.Running as RunningAt, Stages.AdvancesByEvent, declared.stage.Stage.TheVariants.Running}
use Rattle.tsp_base.specs.declared.event.Event.{Event, TheVariants.Bytes}
use Rattle.tsp_schedule.proofs.run.Run.try_bytes.Goals as goal

pub returns-then-try_octets-clause-tries : goal.returns-then-try_octets-clause-tries
returns-then-try_octets-clause-tries g c header events w =
    let line = c.in_ok-line.line.now in
    let h = c.in_ok-handed.handed in
    let e : Event = Bytes h.at h.node h.port h.from (take h.count c.handed_line.new.buffer) in
    let t = MatchBool-at_true _ _ c.if-try_octets.true (c.try_octets.ensures.next header events w) in
    let a = Advances_by_event g.C.EventHandler.refused g.C.EventHandler.stands header events e line (Running c.try_octets.new.self) c.in_ok-handed.ensures.found
    t.0 (c.try_octets.ensures.over ∙ c.requires, t.1) in
    subst (λ l. AdvancesByEvent g.C.EventHandler.refused g.C.EventHandler.stands (RunningAt header events) l (Running c.try_octets.new.self))
    (line_ahead_front c.args.text.now line (length line + 1) c.in_ok-line.ensures) a

pub returns-then-try_octets-clause-front : goal.returns-then-try_octets-clause-front
returns-then-try_octets-clause-front g c = IsAhead_front c.args.text.now c.in_ok-line.line.now (length c.in_ok-line.line.now + 1) c.in_ok-line.ensures

pub returns-else-try_octets-clause-tries : goal.returns-else-try_octets-clause-tries
returns-else-try_octets-clause-tries g c header events w = (
  c.try_octets.ensures.over ∙ c.requires,
  MatchBool-at_false _ _ c.if-try_octets.false (c.try_octets.ensures.next header events w),
)
