-- What the run of a storm's schedule keeps.
use Rattle.std.specs.Prelude.{ℕ, List}
use Rattle.tsp_args.specs.declared.storm.StormWords.{StormWords}
use Rattle.tsp_rules.specs.Values.{Event}
use Rattle.tsp_base.specs.Words.{HeaderValue}
use Rattle.tsp_promises.specs.{Premises.Few, Premises.Honest, Premises.Life, Premises.NamesApart, Premises.Words, Setting.Setting}
use Rattle.tsp_run.specs.{Premised.Short, Promises.Promises, Refusals.Valid, Run.run, Setting.SetBy}
use Rattle.tsp_storm.specs.Schedules.{header_of, storm_events}

-- a run that keeps the promises, and what they ask too, with nothing left to ask but that few sends begin: no peer's datagram is forged in it, none is taken
-- too late, boots have words of their own and nodes names of their own. Few begin where the run is short
pub record KeptOutright (header : HeaderValue) (events : List Event) : Type 0 where
  pub honest : Honest (run header events)
  pub life : Life (run header events)
  pub words : Words (run header events)
  pub names : (setting : Setting) → SetBy header setting → NamesApart setting (run header events)
  pub few : Short header events → Few (run header events)
  pub promises : (setting : Setting) → SetBy header setting → Promises setting (run header events)

-- so it is of each beginning of the schedule of these words of which nothing is refused
abbrev pub StormKept : StormWords → Type 0
StormKept s = (n : ℕ) → Valid (header_of s) (storm_events s n) → KeptOutright (header_of s) (storm_events s n)
