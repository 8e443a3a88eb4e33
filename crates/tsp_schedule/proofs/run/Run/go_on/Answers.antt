-- An event that nothing refuses, or the last line.
use Rattle.std.proofs.Common.{◌∙◌, ap, subst, refl, Ok}
use Rattle.tsp_schedule.proofs.StageLemmas.{MatchResult_map, Advances_event, Advances_end, Halts_event}
use Rattle.tsp_schedule.specs.declared.stage.Stage.TheVariants.{Running}
use Rattle.tsp_script.specs.Schedules.{SpellsEvent}
use Rattle.tsp_schedule.proofs.run.Run.go_on.Goals as goal

pub returns-in-Ok-Event-clause-next : goal.returns-in-Ok-Event-clause-next
returns-in-Ok-Event-clause-next g c header events w =
    let line = c.args.line.now in
    let is = c.in-Ok-Event.is ∙ ap (λ i. Ok i) c.in-Ok-Event.field-0-is in
    let spells = subst (λ i. SpellsEvent line i) c.in-Ok-Event.field-0-is c.in-Ok-Event.ensures.reads in
    let over = c.happen.ensures.over ∙ c.requires in
    MatchResult_map c.happen.result (c.happen.ensures.next header events w)
    (λ _ h. Advances_event g.C.EventHandler.refused g.C.EventHandler.stands header events c.in-Ok-Event.e line (Running c.happen.new.self) c.event_line.result
    is c.event_line.ensures.one spells h.0 (over, h.1))
    (λ stop h. Halts_event g.C.EventHandler.refused g.C.EventHandler.stands header events c.in-Ok-Event.e line stop spells h)

pub returns-in-Ok-End-clause-next : goal.returns-in-Ok-End-clause-next
returns-in-Ok-End-clause-next g c header events w =
    Advances_end g.C.EventHandler.refused g.C.EventHandler.stands header events c.args.line.now _ c.event_line.result (c.in-Ok-End.is ∙
    ap (λ i. Ok i) c.in-Ok-End.field-0-is) c.event_line.ensures.one
    (subst (λ i. SpellsEvent c.args.line.now i) c.in-Ok-End.field-0-is c.in-Ok-End.ensures.reads) (refl, w)
