-- The places of a schedule whose events meet a world.
use Rattle.std.specs.Prelude.{ℕ, List}
use Rattle.tsp_base.specs.{Words.HeaderValue, declared.event.Event.Event}
use Rattle.tsp_schedule.specs.{Schedules.Progress, Schedules.RunsOn as RunsOnBy, Schedules.GoesOn as GoesOnBy, declared.stage.Stage.Stage}
use Rattle.tsp_schedule.specs.Stages.{Advances as AdvancesBy, Halts as HaltsBy, StageStands as StageStandsBy}
use Rattle.tsp_lines.specs.declared.treatment.Stop.{Stop}
use Rattle.tsp_replay.specs.{Schedules.refused, Stages.stands, declared.replayed.Replayed.Replayed}

-- behind the header a line is an event that nothing refuses, or the last
abbrev pub RunsOn : HeaderValue → List Event → List ℕ → Progress → Type 0
RunsOn header events line next = RunsOnBy refused header events line next

-- a line may follow, and this is how far it brings the schedule
abbrev pub GoesOn : Progress → List ℕ → Progress → Type 0
GoesOn p line next = GoesOnBy refused p line next

-- a stage stands for how far the lines have come
abbrev pub StageStands : Progress → Stage Replayed → Type 0
StageStands p stage = StageStandsBy stands p stage

-- a line was accepted: this is how far it brings the schedule, and nothing else is
abbrev pub Advances : Progress → List ℕ → Stage Replayed → Type 0
Advances p line next = AdvancesBy refused stands p line next

-- a line was not accepted
abbrev pub Halts : Progress → List ℕ → Stop → Type 0
Halts p line stop = HaltsBy refused p line stop
