-- Histories that fit, and keep the premises that most promises ask.
use Rattle.std.specs.Prelude.{List, ◌∷◌}
use Rattle.tsp_promises.specs.{Fits.Fits, Fits.Finished, Premises.Honest, Premises.Life, Premises.Words, Setting.Setting}
use Rattle.tsp_base.specs.Words.{Line, Within}

-- it ends with a step, no peer's datagram is forged, none lives longer than LIFE, and no two boots have the same word.
-- Few and NamesApart, which few promises ask, aren't among them
pub record Kept (setting : Setting) (world : List Line) : Type 0 where
  pub fits : Fits setting world
  pub finished : Finished setting world
  pub honest : Honest world
  pub life : Life world
  pub words : Words world

-- such a history and its setting
pub record Example : Type 0 where
  pub setting : Setting
  pub world : List Line
  pub kept : Kept setting world

-- a line of a history, and all lines before it
pub record Spot (world : List Line) : Type 0 where
  pub line : Line
  pub before : List Line
  pub within : Within (line ∷ before) world
