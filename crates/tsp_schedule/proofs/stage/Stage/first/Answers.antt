-- Where the header may end, the first line is as any behind it.
use Rattle.std.specs.Prelude.{[]}
use Rattle.std.proofs.lemmas.Bool.{MatchBool-at_true}
use Rattle.tsp_schedule.specs.Schedules.{IsComplete, Running}
use Rattle.tsp_schedule.proofs.StageLemmas.{MatchResult_map, HaltsFirst_run}
use Rattle.tsp_schedule.proofs.stage.Stage.first.Goals as goal

pub returns-in-Ok-clause-next : goal.returns-in-Ok-clause-next
returns-in-Ok-clause-next g c =
    let complete : IsComplete c.args.header = MatchBool-at_true _ _ c.if-not-is_complete.false c.is_complete.ensures in
    MatchResult_map c.behind.result (c.behind.ensures.next (Running c.args.header []) (c.in-Ok.ensures.1, c.in-Ok.ensures.0)) (λ next h. (complete, h))
    (λ stop h. HaltsFirst_run g.C.EventHandler.refused g.C.EventHandler.stands c.args.header c.args.line.now stop complete h)
