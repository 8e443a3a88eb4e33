-- What a port does with a message that sets a date or passes one on.
use Rattle.tsp_base.specs.Words.{MessageValue, Row, nothing, posts, time_in}
use Rattle.tsp_rules.specs.{DateRows.passes_on, DateRows.sets_date_where, Values.DateAck, Values.Place}
use Rattle.tsp_date.specs.declared.task.Task.{Task}
use Rattle.tsp_date.specs.declared.task.Task.TheVariants.{Nothing, PassOn, AnswerAgain, Set}

-- the acts of a task, for this message from there
abbrev pub task_row : Task → Place → MessageValue → Row
task_row Nothing from m = nothing
task_row (PassOn q) from m = passes_on from q m.number (time_in m.body)
task_row (AnswerAgain p) from m = posts p DateAck m.number
task_row Set from m = sets_date_where from m.number (time_in m.body)
