-- The exit status of each way to end, as docs/FORMATS.md lists them.
use Rattle.std.specs.Prelude.{ℕ}
use Rattle.tsp_query.specs.declared.exit.QueryExit.{QueryExit}
use Rattle.tsp_query.specs.declared.exit.QueryExit.TheVariants.{Answered, NoAnswer as Unanswered, LinkFault as NotAsked, WriteFault as Untold}
use Rattle.tsp_query.specs.declared.exit.QueryExit.TheVariants.{OutOfMemory as Unasked}
use Rattle.tsp_cli.specs.declared.status.Status.{Status}
use Rattle.tsp_cli.specs.declared.status.Status.TheVariants.{Ok as Done, Usage, Bad, ReadFault, WriteFault, LinkFault, NoAnswer, Limit, OutOfMemory}
use Rattle.tsp_lines.specs.declared.treat.Outcome.{Outcome}
use Rattle.tsp_lines.specs.declared.treat.Outcome.TheVariants.{Ok as Treated, Bad as Refused, ReadFault as NotRead, WriteFault as NotWritten, Limit as Limited}
use Rattle.tsp_lines.specs.declared.treat.Outcome.TheVariants.{OutOfMemory as NoMemory}
use Rattle.tsp_storm.specs.declared.run.StormEnd.{StormEnd}
use Rattle.tsp_storm.specs.declared.run.StormEnd.TheVariants.{Done as Summed, Limit as Full, WriteFault as Unsaid, OutOfMemory as Unmade}
use Rattle.tsp_daemon.specs.declared.exit.DaemonExit.{DaemonExit}
use Rattle.tsp_daemon.specs.declared.exit.DaemonExit.TheVariants.{Done as AllTurns, BadWall, LinkFault as NotHeard, WriteFault as NotShown}
use Rattle.tsp_daemon.specs.declared.exit.DaemonExit.TheVariants.{OutOfMemory as Unserved}

-- the exit status, as a number
abbrev pub status_number : Status → ℕ
status_number Done = 0
status_number Usage = 1
status_number Bad = 2
status_number ReadFault = 3
status_number WriteFault = 4
status_number LinkFault = 5
status_number NoAnswer = 6
status_number Limit = 7
status_number OutOfMemory = 8

-- the status of a command that reads lines, by how that ended
abbrev pub status_of : Outcome → Status
status_of Treated = Done
status_of Refused = Bad
status_of NotRead = ReadFault
status_of NotWritten = WriteFault
status_of Limited = Limit
status_of NoMemory = OutOfMemory

-- the status of a daemon, by how it ended
abbrev pub status_of_served : DaemonExit → Status
status_of_served AllTurns = Done
status_of_served BadWall = Bad
status_of_served NotHeard = LinkFault
status_of_served NotShown = WriteFault
status_of_served Unserved = OutOfMemory

-- the status of a question, by how it ended
abbrev pub status_of_asking : QueryExit → Status
status_of_asking Answered = Done
status_of_asking Unanswered = NoAnswer
status_of_asking NotAsked = LinkFault
status_of_asking Untold = WriteFault
status_of_asking Unasked = OutOfMemory

-- the status of a storm, by how it ended
abbrev pub status_of_storm : StormEnd → Status
status_of_storm Summed = Done
status_of_storm Full = Limit
status_of_storm Unsaid = WriteFault
status_of_storm Unmade = OutOfMemory
