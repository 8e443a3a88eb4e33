-- What is promised of a run's history.
use Rattle.std.specs.Prelude.{◌≡◌, true, List}
use Rattle.tsp_base.specs.Words.{Line}
use Rattle.tsp_promises.specs.Setting.{Setting}
use Rattle.tsp_promises.specs.{Dated.Dated, Looked.Looked, Looped.Looped, OneWinner.OneWinner, Premises.Few, Premises.Honest, Premises.Life, Safe.Safe}
use Rattle.tsp_run.specs.AnswerOctets.{AnswerOctets}

-- the history is Safe, and keeps the promises of dates, of LOOPs, of what a look at a clock tells, and of how many octets strangers
-- are sent; if elections are strict, each has at most one winner
pub record Promises (setting : Setting) (world : List Line) : Type 0 where
  pub safe : Safe setting world
  pub one_winner : setting.strict ≡ true → Honest world → Life world → Few world → OneWinner setting world
  pub dated : Dated setting world
  pub looped : Looped setting world
  pub looked : Looked setting world
  pub answer_octets : AnswerOctets setting world
