-- What comes of a daemon that the arguments after `serve` ask for.
use Rattle.std.specs.Prelude.{◌≡◌, ◌⊎◌, ℕ, ℤ, true, false, List, ◌∷◌, Option, Some, codes}
use Rattle.tsp_daemon.specs.declared.end.ServeEnd.TheVariants.{Done as AllTurns, LinkFault as Faulty, WriteFault as Unwritten, OutOfMemory as Refused}
use Rattle.tsp_io.specs.Links.{Binding, NotesReceive}
use Rattle.tsp_promises.specs.Setting.{Setting}
use Rattle.tsp_args.specs.{Ports.all_peers, declared.serve.ServeWords.ServeWords}
use Rattle.tsp_daemon.specs.{Ends.IsReceived, Ends.ServesUntil, Kept.HistoryKept, Kept.SetByWords, Nodes.first_past, Pages.KeepsPage}
use Rattle.tsp_daemon.specs.{Pages.MarksIfTold, Waits.NotesWaits}
use Rattle.tsp_daemon.specs.{Sessions.Session, Sessions.after_turns, Sessions.read_once, declared.end.ServeEnd.ServeEnd}
use Rattle.tsp_query.specs.{Outside.Observed, Outside.Paged, Outside.Knows, Outside.after_bind, Outside.WritesBeginning, Ends.Outside, Ends.KnowsExactly}
use Rattle.tsp_rules.specs.Guards.{is_clock_value}
use Rattle.tsp_daemon.specs.declared.exit.DaemonExit.{DaemonExit}
use Rattle.tsp_daemon.specs.declared.exit.DaemonExit.TheVariants.{Done, BadWall, LinkFault, WriteFault, OutOfMemory}

-- the line that is written if the wall clock is out of its range
abbrev pub bad_wall : List ℕ
bad_wall = codes "bad wall\n"

-- how a daemon ends if its session ends so
abbrev pub served_of : ServeEnd → DaemonExit
served_of AllTurns = Done
served_of Faulty = LinkFault
served_of Unwritten = WriteFault
served_of Refused = OutOfMemory

-- the daemon's session at its beginning: its node has booted at the tick that was read first
abbrev pub first_session : ServeWords → Outside → ℤ → ℕ → List ℕ → Session
first_session s o wall word written = record {
  past = first_past s (read_once o).last wall word;
  outside = read_once o;
  turns = 0;
  posts = 0;
  written = written;
}

-- what a daemon binds its link to: its own address, which is also that of peer 0, and then the peers of its arguments, in
-- their order
abbrev pub serving_binding : ServeWords → Binding
serving_binding s = record { local = s.local; peers = s.local ∷ all_peers s.ports }

-- the daemon ran out of memory at this state of the outside: nothing was sent, awaited or written since
pub record IsRefused (o : Outside) (written : List ℕ) (waits : Option (List ℕ)) (page : Paged) (now : Observed) (served : DaemonExit) : Type 0 where
  pub cause : served ≡ OutOfMemory
  pub tells : KnowsExactly o now.arrivals now.tried now.calls now.readings now.last
  pub written_is : now.written ≡ Some written
  pub unwaited : now.waits ≡ waits
  pub unmarked : now.page ≡ page

-- the wall clock isn't more than -2^31 s and less than 2^31 s: one tick was read, nothing was sent, and the line `bad
-- wall` was written, or its beginning
pub record HasBadWall (o : Outside) (wall : ℤ) (written : List ℕ) (waits : Option (List ℕ)) (page : Paged) (now : Observed) (served : DaemonExit) : Type 0 where
  pub out : is_clock_value wall ≡ false
  pub tells : KnowsExactly (read_once o) now.arrivals now.tried now.calls now.readings now.last
  pub says : WritesBeginning bad_wall BadWall WriteFault OutOfMemory (Some written) now.written served
  pub unwaited : now.waits ≡ waits
  pub unmarked : now.page ≡ page

-- the wall clock is in its range, and the daemon ends as its session does
pub record IsServed (s : ServeWords) (o : Outside) (wall : ℤ) (word : ℕ) (written : List ℕ) (waits : Option (List ℕ)) (page : Paged) (now : Observed)
    (served : DaemonExit) : Type 0 where
  pub within : is_clock_value wall ≡ true
  pub end : ServeEnd
  pub served_is : served ≡ served_of end
  -- after how many turns it ended
  pub taken : ℕ
  pub serves : ServesUntil s.turns taken (first_session s o wall word written) now.arrivals now.tried now.calls now.readings now.last now.written end
  -- each receive waited as long as its turn says
  pub received : ℕ
  pub received_is : IsReceived taken received end
  pub noted : NotesWaits (first_session s o wall word written) received waits now.waits
  -- what it wrote on its page, on the board that it had
  pub marked : MarksIfTold page (first_session s o wall word written) taken now.calls now.page end
  pub boarded : KeepsPage page now.page
  -- what its node did in these turns keeps all that is promised without premises
  pub kept : (setting : Setting) → SetByWords s (read_once o).last wall setting →
      HistoryKept setting (after_turns taken (first_session s o wall word written)).past.lines

-- what comes of a daemon once its link is bound
abbrev pub BoundServes : ServeWords → Outside → ℤ → ℕ → List ℕ → Option (List ℕ) → Paged → Observed → DaemonExit → Type 0
BoundServes s o wall word written waits page now served =
    IsRefused (read_once o) written waits page now served ⊎ HasBadWall o wall written waits page now served ⊎
    IsServed s o wall word written waits page now served

-- the same, if all of the outside is told at its beginning
abbrev pub BoundServesIfTold : ServeWords → Observed → Observed → DaemonExit → Type 0
BoundServesIfTold s before now served = (o : Outside) (wall : ℤ) (word : ℕ) (written : List ℕ) → Knows o wall word written before →
    BoundServes s o wall word written before.waits before.page now served

-- the bind failed: no tick was read, and nothing was sent or written
pub record ServesNothing (o : Outside) (written : List ℕ) (waits : Option (List ℕ)) (page : Paged) (now : Observed) (served : DaemonExit) : Type 0 where
  pub cause : served ≡ LinkFault
  pub tells : KnowsExactly (after_bind o) now.arrivals now.tried now.calls now.readings now.last
  pub written_is : now.written ≡ Some written
  pub unwaited : now.waits ≡ waits
  pub unmarked : now.page ≡ page

-- the link wasn't bound: there was no memory for the addresses or for the bind, or the bind failed
abbrev pub ServesUnbound : Outside → List ℕ → Option (List ℕ) → Paged → Observed → DaemonExit → Type 0
ServesUnbound o written waits page now served =
    IsRefused o written waits page now served ⊎ IsRefused (after_bind o) written waits page now served ⊎ ServesNothing o written waits page now served

-- what comes of a daemon. Its link is bound to its own address and its peers; after that the wall clock is read, right
-- after the first tick
abbrev pub ServesAs : ServeWords → Outside → ℤ → ℕ → List ℕ → Observed → Observed → DaemonExit → Type 0
ServesAs s o wall word written before now served =
    ((now.binds ≡ before.binds) × (now.left_at_wall ≡ before.left_at_wall) × ServesUnbound o written before.waits before.page now served)
    ⊎ (NotesReceive before.binds now.binds (serving_binding s) × (now.left_at_wall ≡ Some (Some (read_once o).readings)) ×
    BoundServes s (after_bind o) wall word written before.waits before.page now served)

-- the same, if all of the outside is told at its beginning
abbrev pub ServesIfTold : ServeWords → Observed → Observed → DaemonExit → Type 0
ServesIfTold s before now served = (o : Outside) (wall : ℤ) (word : ℕ) (written : List ℕ) → Knows o wall word written before →
    ServesAs s o wall word written before now served
