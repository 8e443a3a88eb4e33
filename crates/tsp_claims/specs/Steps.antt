-- Steps in which nodes act, as values.
use Rattle.std.specs.Prelude.{◌≡◌, ◌<◌, length, Option, None, Some}
use Rattle.tsp_base.specs.Words.{HeaderValue, Step}
use Rattle.tsp_claims.specs.declared.acting.Acting.{Acting}
use Rattle.tsp_history.specs.Histories.{cause_of}
use Rattle.tsp_run.specs.Run.{step_tick}

-- the step that these values are
abbrev pub step_by : Acting → Step
step_by a = record { at = a.at; node = a.node; cause = cause_of a.why }

-- these values are this step of a node of the header, and its tick
pub record IsStep (header : HeaderValue) (step : Step) (a : Acting) : Type 0 where
  pub step_is : step_by a ≡ step
  pub tick_is : a.tick ≡ step_tick header step
  pub node : a.node < length header.nodes

-- these values are the step, if there is one
abbrev pub ActsIn : HeaderValue → Option Step → Option Acting → Type 0
ActsIn header None None = Unit {0}
ActsIn header (Some step) (Some a) = IsStep header step a
ActsIn header None (Some a) = ⊥
ActsIn header (Some step) None = ⊥
