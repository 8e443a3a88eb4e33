-- How a question ends as a command: what is read, sent, awaited and written.
use Rattle.std.specs.Prelude.{◌≡◌, ◌⊎◌, ℕ, ℤ, ◌%◌, List, [], ◌∷◌, Option, Some}
use Rattle.tsp_base.specs.declared.kind.Kind.TheVariants.{Msite, Test}
use Rattle.tsp_io.specs.{Links.Arrival, Links.Binding, Links.NotesReceive, Links.Tried, declared.addr.Addr.Addr}
use Rattle.tsp_query.specs.{Arrivals.all_but_first, Clocks.tick_given, Ends.Outside, Ends.KnowsExactly, Ends.WaitsSeconds, Lines.end_line}
use Rattle.tsp_query.specs.Queries.{message, stamp, trace_kind, date_message, QueryEnds, master_in, heard_in, date_answer, diff_in}
use Rattle.tsp_query.specs.Outside.{Observed, Knows, after_bind, WritesBeginning}
use Rattle.tsp_query.specs.declared.query.QueryEnd.TheVariants.{Master, Diff, Heard, Date as Dated, NoAnswer as Unanswered, LinkFault as Faulty}
use Rattle.tsp_query.specs.declared.query.QueryEnd.TheVariants.{OutOfMemory as Refused}
use Rattle.tsp_query.specs.declared.question.Question.TheVariants.{OfNumber, OfDate, OfWord}
use Rattle.tsp_args.specs.declared.query.Query.{Query}
use Rattle.tsp_args.specs.declared.query.Query.TheVariants.{Msite as MsiteQuery, ClockDiff, Trace, Election, Date}
use Rattle.tsp_query.specs.declared.{exit.QueryExit.QueryExit, query.QueryEnd.QueryEnd}
use Rattle.tsp_query.specs.declared.exit.QueryExit.TheVariants.{Answered, NoAnswer, LinkFault, WriteFault, OutOfMemory}

-- how a command ends if its question ends so and its line is written
abbrev pub asking_of : QueryEnd → QueryExit
asking_of (Master name) = Answered
asking_of (Diff diff err) = Answered
asking_of Heard = Answered
asking_of (Dated set) = Answered
asking_of Unanswered = NoAnswer
asking_of Faulty = LinkFault
asking_of Refused = OutOfMemory

-- a question ends so: the wall clock and the word were read, and a request was sent, whose number is made from the word
abbrev pub QueryComes : Query → ℤ → ℕ → Outside → Option (List Arrival) → Option (List Tried) → Option ℕ → Option (List ℕ) → ℕ → ℕ → ℕ → QueryEnd → Type 0
QueryComes MsiteQuery wall word o arrivals tried calls readings last sends sends_now end =
    QueryEnds (message Msite word) (OfNumber (word % 65536)) master_in o arrivals tried calls readings last sends sends_now end
QueryComes ClockDiff wall word o arrivals tried calls readings last sends sends_now end =
    QueryEnds (stamp word) (OfWord word) (diff_in wall (tick_given o.last o.readings 0) (tick_given o.last o.readings 1)) o arrivals tried calls readings last
    sends sends_now end
QueryComes (Trace on) wall word o arrivals tried calls readings last sends sends_now end =
    QueryEnds (message (trace_kind on) word) (OfNumber (word % 65536)) heard_in o arrivals tried calls readings last sends sends_now end
QueryComes Election wall word o arrivals tried calls readings last sends sends_now end =
    QueryEnds (message Test word) (OfNumber (word % 65536)) heard_in o arrivals tried calls readings last sends sends_now end
QueryComes (Date time) wall word o arrivals tried calls readings last sends sends_now end =
    QueryEnds (date_message time word) (OfDate (word % 65536)) date_answer o arrivals tried calls readings last sends sends_now end

-- the address from which a question is asked: any address of this machine, and a UDP port that the system chooses
abbrev pub anywhere : Addr
anywhere = record { ip = 0 ∷ 0 ∷ 0 ∷ 0 ∷ []; port = 0 }

-- what the link of a question is bound to: that address, and the daemon as the only peer
abbrev pub asking_binding : Addr → Binding
asking_binding daemon = record { local = anywhere; peers = daemon ∷ [] }

-- the bind failed, or there was no memory for it: no tick was read, and nothing was sent or written
pub record IsNotAsked (o : Outside) (written : List ℕ) (before now : Observed) (asking : QueryExit) : Type 0 where
  pub cause : (asking ≡ LinkFault) ⊎ (asking ≡ OutOfMemory)
  pub tells : KnowsExactly (after_bind o) now.arrivals now.tried now.calls now.readings now.last
  pub written_is : now.written ≡ Some written
  pub unbound : now.binds ≡ before.binds
  pub unwaited : now.waits ≡ before.waits
  pub unread : now.left_at_wall ≡ before.left_at_wall

-- the link was bound, the question was asked, and its line was written, all of it or only the beginning; the last two
-- numbers are the counts of failed sends before and after
pub record IsAsked (daemon : Addr) (query : Query) (o : Outside) (wall : ℤ) (word : ℕ) (written : List ℕ) (before now : Observed) (sends sends_now : ℕ)
    (asking : QueryExit) : Type 0 where
  pub end : QueryEnd
  pub comes : QueryComes query wall word (after_bind o) now.arrivals now.tried now.calls now.readings now.last sends sends_now end
  pub says : WritesBeginning (end_line query end) (asking_of end) WriteFault OutOfMemory (Some written) now.written asking
  -- the link was bound to any address and to the daemon alone
  pub bound_to : NotesReceive before.binds now.binds (asking_binding daemon)
  pub waits : WaitsSeconds before.waits now.waits
  -- the wall clock was read between the first two ticks
  pub walled : now.left_at_wall ≡ Some (Some (all_but_first o.readings))

-- how a question ends as a command, if this was known of the outside at its beginning
abbrev pub AsksAs : Addr → Query → Outside → ℤ → ℕ → List ℕ → Observed → Observed → ℕ → ℕ → QueryExit → Type 0
AsksAs daemon query o wall word written before now sends sends_now asking = IsNotAsked o written before now asking ⊎
    IsAsked daemon query o wall word written before now sends sends_now asking

-- the same, if all of the outside is told at its beginning
abbrev pub AsksIfTold : Addr → Query → Observed → Observed → ℕ → ℕ → QueryExit → Type 0
AsksIfTold daemon query before now sends sends_now asking =
    (o : Outside) (wall : ℤ) (word : ℕ) (written : List ℕ) → Knows o wall word written before →
    AsksAs daemon query o wall word written before now sends sends_now asking
