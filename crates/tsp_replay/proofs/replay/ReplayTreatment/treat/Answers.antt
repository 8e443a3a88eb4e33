-- The stage goes on or halts, and what it tells is handed over.
use Rattle.std.proofs.Common.{reverse}
use Rattle.tsp_schedule.{proofs.StageLemmas.MatchResult_map, specs.Schedules.Progress}
use Rattle.tsp_replay.specs.Schedules.{Reaches}
use Rattle.tsp_replay.proofs.{Places.Advances, TreatLemmas.Goes_advances, TreatLemmas.StopsAt_untold, TreatLemmas.StopsAt_halts}
use Rattle.tsp_replay.proofs.replay.ReplayTreatment.treat.Goals as goal

pub returns-in-Ok-clause-treats : goal.returns-in-Ok-clause-treats
returns-in-Ok-clause-treats g c lines text stands accepts room =
    let line = c.args.line.now in
    let next = c.advance.new.self in
    let advances : (q : Progress) → Reaches (reverse lines) q → Advances q line next = λ q r. c.in-Ok.ensures.next q (stands q r) in
    MatchResult_map c.tell_stage.result c.tell_stage.ensures.tells
    (λ _ h. Goes_advances lines text line accepts.0 next _ _ _ _ accepts.1 accepts.2 advances h)
    (λ stop h. StopsAt_untold lines text line accepts.0 next _ _ _ _ stop accepts.1 accepts.2 (advances accepts.0 accepts.1) h)

pub returns-in-Err-clause-treats : goal.returns-in-Err-clause-treats
returns-in-Err-clause-treats g c lines text stands accepts room =
    StopsAt_halts lines text c.args.line.now accepts.0 _ _ c.in-Err.stop accepts.1 (c.in-Err.ensures.next accepts.0 (stands accepts.0 accepts.1))
