-- What comes of each command of the program.
use Rattle.std.specs.Prelude.{◌≡◌, ◌≢◌, ◌⊎◌, ◌≤◌, ℕ, ℤ, Bool, true, List, length, Option, Some}
use Rattle.tsp_query.specs.{Asks.AsksIfTold, Outside.Observed, Outside.observed, declared.exit.QueryExit.QueryExit}
use Rattle.tsp_audit_command.specs.Meaning.{IsAuditText, auditing}
use Rattle.tsp_io.specs.{Counts.Rose, declared.addr.Addr.Addr, declared.link.Link.Ghosts as LinkOf, declared.sink.Sink.Ghosts as SinkOf}
use Rattle.tsp_io.specs.declared.{source.Source.Ghosts as SourceOf, ticker.Ticker.Ghosts as TickerOf}
use Rattle.tsp_lines.specs.declared.{limits.TheConstants.MOST_INPUT, treat.Outcome.Outcome}
use Rattle.tsp_lines.specs.{Answers.Answers, Answers.IsAnswer as IsAnswerTo, Gatherings.ComesGathered, Gatherings.IsGathered}
use Rattle.tsp_rules.specs.Guards.{is_clock_value}
use Rattle.tsp_storm.specs.declared.run.StormEnd.{StormEnd}
use Rattle.tsp_storm.specs.Answers.{IsStormAnswer, AgreesWithAnswer, HasEventRoom, StormsAs}
use Rattle.tsp_daemon.specs.{Serving.ServesIfTold, declared.exit.DaemonExit.DaemonExit}
use Rattle.tsp_args.specs.{Commands.words_of, Commands.IsCommand, declared.command.Command.Command, declared.query.Query.Query}
use Rattle.tsp_args.specs.declared.command.Command.TheVariants.{Replay, Show, Pack, Serve, Ask, Storm, Icmp, Audit}
use Rattle.tsp_args.specs.declared.{serve.ServeWords.ServeWords, storm.StormWords.StormWords}
use Rattle.tsp_cli.specs.declared.status.Status.{Status}
use Rattle.tsp_cli.specs.declared.status.Status.TheVariants.{Ok, NoAnswer, OutOfMemory, ReadFault}
use Rattle.tsp_cli.specs.Lines.{LineCommand, Replay as Replays, Show as Shows, Pack as Packs, Icmp as Averages, Runs}
use Rattle.tsp_cli.specs.Statuses.{status_of, status_of_served, status_of_asking, status_of_storm}

-- what the four objects of a run hold at one moment: what is left of the source, and whether a read came to its end;
-- what is told of sink, link and ticker; and the counts of failed reads, of failed writes, of failed binds and
-- receives, and of failed sends
pub record Now : Type 0 where
  pub left : Option (List ℕ)
  pub ended : Bool
  pub told : Observed
  pub reads : ℕ
  pub writes : ℕ
  pub links : ℕ
  pub sends : ℕ

-- what they hold at a moment
abbrev pub now_of : {S K L T : Type 0} → SourceOf S → SinkOf K → LinkOf L → TickerOf T → S → K → L → T → Now
now_of sources sinks links tickers source sink link ticker = record {
  left = sources.left source;
  ended = sources.ended source;
  told = observed sinks links tickers sink link ticker;
  reads = sources.faults source;
  writes = sinks.faults sink;
  links = links.faults link;
  sends = links.send_faults link;
}

-- what comes of a command that reads lines
abbrev pub RunsLines : LineCommand → Now → Now → Status → Type 0
RunsLines c old new status = Runs c old.left new.left old.told.written new.told.written new.ended old.reads new.reads old.writes new.writes status

-- what comes of a daemon. The last numbers are the link's count of faults and the sink's, each before and after
pub record RunsDaemon (s : ServeWords) (old new : Observed) (links links_now writes writes_now : ℕ) (status : Status) : Type 0 where
  -- how it ended
  pub served : DaemonExit
  pub status_is : status ≡ status_of_served served
  -- if the outside is told: what was sent and written, and what came of the wall clock
  pub serves : ServesIfTold s old new served
  -- if the wall clock is told and in its range, and no count rose but that of failed sends: the status is Ok, or
  -- OutOfMemory
  pub complete : (wall : ℤ) → old.wall ≡ Some wall → is_clock_value wall ≡ true → ¬ Rose links links_now → ¬ Rose writes writes_now → (status ≡ Ok) ⊎
      (status ≡ OutOfMemory)

-- what comes of a question to a daemon. The last numbers are the counts of the link's faults, of its failed sends, and
-- of the sink's faults, each before and after
pub record RunsQuery (daemon : Addr) (q : Query) (old new : Observed) (links links_now sends sends_now writes writes_now : ℕ) (status : Status) : Type 0 where
  -- how it ended
  pub asking : QueryExit
  pub status_is : status ≡ status_of_asking asking
  -- if the outside is told: the one datagram that was sent, the answer among what came, and its line
  pub asks : AsksIfTold daemon q old new sends sends_now asking
  -- if no count rose: the status is Ok, NoAnswer or OutOfMemory
  pub complete : ¬ Rose links links_now → ¬ Rose sends sends_now → ¬ Rose writes writes_now → (status ≡ Ok) ⊎ (status ≡ NoAnswer) ⊎ (status ≡ OutOfMemory)

-- what comes of a storm: a schedule that is made from a number, and run
pub record RunsStorm (s : StormWords) (written now : Option (List ℕ)) (writes writes_now : ℕ) (status : Status) : Type 0 where
  -- how it ended
  pub end : StormEnd
  pub status_is : status ≡ status_of_storm end
  -- what was written: the summary of the run, or the number of the event for which there was no room, or the beginning
  -- of one
  pub storms : StormsAs s written now end
  -- the end and the text are the answer to the arguments, unless a write failed or memory ran out
  pub answers : (e : StormEnd) (text : List ℕ) → IsStormAnswer s e text → AgreesWithAnswer e text written now end
  -- if there is room for each event and no write failed: the status is Ok, or OutOfMemory
  pub complete : HasEventRoom s → ¬ Rose writes writes_now → (status ≡ Ok) ⊎ (status ≡ OutOfMemory)

-- what comes of an audit, which judges the trace that is claimed for a schedule. The last numbers are the counts of
-- failed reads and of failed writes, each before and after
pub record RunsAudit (input left written now : Option (List ℕ)) (ended : Bool) (reads reads_now writes writes_now : ℕ) (status : Status) : Type 0 where
  -- how reading its lines and writing the verdict ended
  pub outcome : Outcome
  pub status_is : status ≡ status_of outcome
  -- what that says of input and output: if a read failed, nothing was written
  pub comes : ComesGathered auditing MOST_INPUT input left written now outcome
  -- if the input is told: it agrees with the answer to it
  pub answers : Answers auditing MOST_INPUT input written now outcome
  -- if the input is told and no count rose: the status is that of the answer, or OutOfMemory
  pub decided : (octets : List ℕ) (answer : Outcome) (output : List ℕ) → input ≡ Some octets → IsAnswerTo auditing MOST_INPUT octets answer output →
      ¬ Rose reads reads_now → ¬ Rose writes writes_now → (status ≡ status_of answer) ⊎ (status ≡ OutOfMemory)
  -- if the input is told, has at most 64 MiB, nothing of it is refused, and no count rose: the status is Ok, or
  -- OutOfMemory
  pub complete : (octets : List ℕ) → input ≡ Some octets → length octets ≤ MOST_INPUT → IsAuditText octets → ¬ Rose reads reads_now → ¬ Rose writes writes_now →
      (status ≡ Ok) ⊎ (status ≡ OutOfMemory)
  -- the input was read to its end, or to the first octet past the limit, unless a read failed or memory ran out
  pub gathered : status ≢ ReadFault → status ≢ OutOfMemory → IsGathered MOST_INPUT input left ended
  -- with Ok the source was read to its end
  pub whole : status ≡ Ok → ended ≡ true

-- what comes of each command: the objects before and after it, and its status
abbrev pub Does : Command → Now → Now → Status → Type 0
Does Replay old new status = RunsLines Replays old new status
Does Show old new status = RunsLines Shows old new status
Does Pack old new status = RunsLines Packs old new status
Does Icmp old new status = RunsLines Averages old new status
Does (Serve s) old new status = RunsDaemon s old.told new.told old.links new.links old.writes new.writes status
Does (Ask a q) old new status = RunsQuery a q old.told new.told old.links new.links old.sends new.sends old.writes new.writes status
Does (Storm s) old new status = RunsStorm s old.told.written new.told.written old.writes new.writes status
Does Audit old new status = RunsAudit old.left new.left old.told.written new.told.written new.ended old.reads new.reads old.writes new.writes status

-- the same, or there was no memory for the command's own parts, and nothing has changed
abbrev pub DoesOrNot : Command → Now → Now → Status → Type 0
DoesOrNot c old new status = ((status ≡ OutOfMemory) × (new ≡ old)) ⊎ Does c old new status

-- which objects a command leaves unchanged: one that reads lines, the link and the ticker; a daemon or a question, the
-- source; a storm, all three
abbrev pub Untouched : {S L T : Type 0} → Command → S → S → L → L → T → T → Type 0
Untouched (Serve s) source source_now link link_now ticker ticker_now = source_now ≡ source
Untouched (Ask a q) source source_now link link_now ticker ticker_now = source_now ≡ source
Untouched (Storm s) source source_now link link_now ticker ticker_now = (source_now ≡ source) × (link_now ≡ link) × (ticker_now ≡ ticker)
Untouched _ source source_now link link_now ticker ticker_now = (link_now ≡ link) × (ticker_now ≡ ticker)

-- a command is a question to a daemon
abbrev pub IsAsk : Command → Type 0
IsAsk (Ask a q) = Unit {0}
IsAsk _ = ⊥

-- the arguments are those of a question to a daemon
abbrev pub IsQuestion : List (List ℕ) → Type 0
IsQuestion words = (c : Command) × IsAsk c × IsCommand c × (words ≡ words_of c)

-- how a link's counts of faults are left: neither falls, this fault comes only if that of failed binds and receives rose
-- or, in a question, that of failed sends; and that of failed binds and receives is unchanged where this fault doesn't
-- come
pub record LinkFaults {L : Type 0} (links : LinkOf L) (before now : L) (fault question : Type 0) : Type 0 where
  pub later : (links.faults before ≤ links.faults now) × (links.send_faults before ≤ links.send_faults now)
  pub cause : fault → Rose (links.faults before) (links.faults now) ⊎ (question × Rose (links.send_faults before) (links.send_faults now))
  pub still : ¬ fault → links.faults now ≡ links.faults before
