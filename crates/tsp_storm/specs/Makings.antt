-- What a schedule in the making stands for.
use Rattle.std.specs.Prelude.{◌≡◌, ℕ, ◌+◌}
use Rattle.tsp_storm.specs.declared.making.Stopped.{Stopped, TheVariants.Limit, TheVariants.OutOfMemory}
use Rattle.tsp_storm.specs.{Answers.StopsAfter, Schedules.header_of, Schedules.storm_events, Schedules.made, declared.making.Making.Making}
use Rattle.tsp_args.specs.{Storms.IsStorm, declared.storm.StormWords.StormWords}
use Rattle.tsp_world.specs.WorldStands.{WorldStands}

-- as many events of the schedule of these words were made as the generator has given, and the world has accepted them
pub record MakingStands (s : StormWords) (m : Making) : Type 0 where
  pub words : IsStorm s
  pub generator : m.storm ≡ (made s m.storm.given).generator
  pub world : WorldStands (header_of s) (storm_events s m.storm.given) m.world

-- why the event after so many wasn't made
abbrev pub StopsMaking : StormWords → ℕ → Stopped → Type 0
StopsMaking s n (Limit number) = (number ≡ n + 1) × StopsAfter s n
StopsMaking s n OutOfMemory = Unit {0}
