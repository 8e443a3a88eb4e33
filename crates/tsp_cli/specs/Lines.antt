-- What comes of a command that reads lines.
use Rattle.std.specs.Prelude.{◌≡◌, ◌⊎◌, ℕ, ◌≤◌, List, length, Option, Some, Bool, true}
use Rattle.tsp_cli.specs.declared.status.Status.TheVariants.{Ok, Usage, Bad, ReadFault, WriteFault, LinkFault, NoAnswer, Limit, OutOfMemory}
use Rattle.tsp_cli.specs.{Statuses.status_of, declared.status.Status.Status}
use Rattle.tsp_convert.specs.{Packs.AreMessageLines, Packs.pack_meaning, Shows.AreHexLines, Shows.show_meaning}
use Rattle.tsp_io.specs.Counts.{Rose}
use Rattle.tsp_lines.specs.declared.{limits.TheConstants.MOST_INPUT, treat.Outcome.Outcome}
use Rattle.tsp_lines.specs.declared.treat.Outcome.TheVariants.{Ok as Done, Bad as Refused, ReadFault as NotRead, WriteFault as NotWritten, Limit as Limited}
use Rattle.tsp_lines.specs.declared.treat.Outcome.TheVariants.{OutOfMemory as NoMemory}
use Rattle.tsp_lines.specs.{Answers.IsAnswer, Answers.Agrees, Meanings.Meaning, Outcomes.Comes, Outcomes.KeepsUp}
use Rattle.tsp_query.specs.Outside.{WritesBeginning as SaysAs}
use Rattle.tsp_icmp_command.specs.Meaning.{AreExchangeLines, averaging}
use Rattle.tsp_replay.specs.Meaning.{IsScheduleText, replaying}

-- a command that reads lines from the source, and writes to the sink
pub data LineCommand : Type 0 where
  Replay : LineCommand
  Show : LineCommand
  Pack : LineCommand
  Icmp : LineCommand

-- what lines mean to a command, and what it writes for them
abbrev pub meaning_of : LineCommand → Meaning
meaning_of Replay = replaying
meaning_of Show = show_meaning
meaning_of Pack = pack_meaning
meaning_of Icmp = averaging

-- octets are input of which the command refuses nothing: a schedule's text, datagrams in hexadecimal, message lines, or
-- lines of exchanges
abbrev pub IsTextOf : LineCommand → List ℕ → Type 0
IsTextOf Replay octets = IsScheduleText octets
IsTextOf Show octets = AreHexLines octets
IsTextOf Pack octets = AreMessageLines octets
IsTextOf Icmp octets = AreExchangeLines octets

-- what a status says of an input whose lines mean this, of what is left of it, and of what was written; with ⊥ the
-- status never comes
abbrev pub EndsAs : Meaning → Option (List ℕ) → Option (List ℕ) → Option (List ℕ) → Option (List ℕ) → Status → Type 0
EndsAs m input left written now Ok = Comes m MOST_INPUT input left written now Done
EndsAs m input left written now Usage = ⊥
EndsAs m input left written now Bad = Comes m MOST_INPUT input left written now Refused
EndsAs m input left written now ReadFault = Comes m MOST_INPUT input left written now NotRead
EndsAs m input left written now WriteFault = Comes m MOST_INPUT input left written now NotWritten
EndsAs m input left written now LinkFault = ⊥
EndsAs m input left written now NoAnswer = ⊥
EndsAs m input left written now Limit = Comes m MOST_INPUT input left written now Limited
EndsAs m input left written now OutOfMemory = Comes m MOST_INPUT input left written now NoMemory

-- what a status says if the right answer to the input is this outcome with this output; with ⊥ the status never comes
abbrev pub AgreesAs : Outcome → List ℕ → Option (List ℕ) → Option (List ℕ) → Status → Type 0
AgreesAs outcome output written now Ok = Agrees outcome output written now Done
AgreesAs outcome output written now Usage = ⊥
AgreesAs outcome output written now Bad = Agrees outcome output written now Refused
AgreesAs outcome output written now ReadFault = Agrees outcome output written now NotRead
AgreesAs outcome output written now WriteFault = Agrees outcome output written now NotWritten
AgreesAs outcome output written now LinkFault = ⊥
AgreesAs outcome output written now NoAnswer = ⊥
AgreesAs outcome output written now Limit = Agrees outcome output written now Limited
AgreesAs outcome output written now OutOfMemory = Agrees outcome output written now NoMemory

-- how such a command ends. The last numbers are the counts of failed reads and of failed writes, each before and after
pub record Runs (command : LineCommand) (input left written now : Option (List ℕ)) (ended : Bool) (reads reads_now writes writes_now : ℕ) (status : Status) :
    Type 0 where
  -- what the status says of input and output
  pub ends : EndsAs (meaning_of command) input left written now status
  -- if the input is told: the status agrees with the answer to it
  pub answers : (octets : List ℕ) (outcome : Outcome) (output : List ℕ) → input ≡ Some octets → IsAnswer (meaning_of command) MOST_INPUT octets outcome output →
      AgreesAs outcome output written now status
  -- if the input is told and no count rose: the status is that of the answer, or OutOfMemory
  pub decided : (octets : List ℕ) (outcome : Outcome) (output : List ℕ) → input ≡ Some octets → IsAnswer (meaning_of command) MOST_INPUT octets outcome output →
      ¬ Rose reads reads_now → ¬ Rose writes writes_now → (status ≡ status_of outcome) ⊎ (status ≡ OutOfMemory)
  -- if the input is told, has at most 64 MiB, nothing of it is refused, and no count rose: the status is Ok, or
  -- OutOfMemory
  pub complete : (octets : List ℕ) → input ≡ Some octets → length octets ≤ MOST_INPUT → IsTextOf command octets → ¬ Rose reads reads_now →
      ¬ Rose writes writes_now → (status ≡ Ok) ⊎ (status ≡ OutOfMemory)
  -- but for at most the last 64 KiB that were read, the output of each line was written
  pub keeps_up : KeepsUp (meaning_of command) MOST_INPUT input left written now
  -- with Ok the source was read to its end
  pub whole : status ≡ Ok → ended ≡ true

-- a text was to be written, and then this status given: it is, and all of the text was written; or a write failed or
-- memory ran out, and then only its beginning was
abbrev pub Says : List ℕ → Status → Option (List ℕ) → Option (List ℕ) → Status → Type 0
Says text status written now answer = SaysAs text status WriteFault OutOfMemory written now answer
