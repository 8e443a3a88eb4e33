-- How a master looks for rivals.
use Rattle.std.specs.Prelude.{◌≡◌, ℕ, ◌+◌, not, Bool, List, [], ◌∷◌, map, None}
use Rattle.tsp_rules.specs.Values.{Act, Arm, Rival, Conflict, MasterAck, MasterUp, ResolveAlarm, ResolveKind, Ack, Event, WINDOW}
use Rattle.tsp_rules.specs.{Guards.is_armed, NodeRows.NodePast, ResolveRows.is_new_rival}
use Rattle.tsp_base.specs.Words.{Acts, HeaderValue, Line, Past, Within, armed, of, others, post_of, view}
use Rattle.tsp_run.specs.{Clocked.Clocks, Clocked.run_by, Run.run}
use Rattle.tsp_progress.specs.{ByTable.node_in, ByTable.port_before}
use Rattle.tsp_progress.specs.Heeds.{DoesNext, Heeds, is_master_role, posts_bare}

-- the question who else is master, to each other peer
abbrev pub questions : Past → List Act
questions past = map (post_of ResolveKind 0 past.name) (others past.own past.peers)

-- Resolve is armed for WINDOW ticks, 5 s, and each other peer is asked
abbrev pub resolve_acts : ℕ → Past → List Act
resolve_acts x past = Arm ResolveAlarm (x + WINDOW) ∷ questions past

-- whether a port isn't looking for rivals
abbrev pub is_settled : ℕ → Past → Bool
is_settled x past = not (is_armed ResolveAlarm x past)

-- what a master does at once that hears of another
pub record Resolves (node : NodePast) (lines : List Line) : Type 0 where
  -- at a MASTERUP it looks for rivals, unless it does so already
  pub masterup : Heeds MasterUp is_master_role (λ p m x past. is_settled x past) (λ p m x past. resolve_acts x past) node lines
  -- at a CONFLICT, too, which it acknowledges
  pub conflict : Heeds Conflict is_master_role (λ p m x past. is_settled x past)
      (λ p m x past. posts_bare Ack m.number past p ∷ resolve_acts x past) node lines
  -- while it does so, who says that it is master is a rival
  pub masterack : Heeds MasterAck is_master_role (λ p m x past. is_new_rival p x past) (λ p m x past. Rival p ∷ []) node lines

-- at each node
abbrev pub AllResolve : HeaderValue → List Line → Type 0
AllResolve header world = (n : ℕ) → Resolves (node_in header n) (of n world)

-- where Resolve is armed at the line l, it wasn't armed before, and each other peer of the port is asked next
pub record AsksAt (node : NodePast) (l : Line) (older lines : List Line) : Type 0 where
  pub unarmed : (armed (view l.port older)).resolve ≡ None
  pub asks : DoesNext (questions (port_before node l older)) l older lines

-- so it is at each such line of a node
abbrev pub AsksAll : NodePast → List Line → Type 0
AsksAll node lines = (l : Line) (older : List Line) (at : ℕ) → Within (l ∷ older) lines → l.did.deed ≡ Acts (Arm ResolveAlarm at) → AsksAt node l older lines

-- of each node
abbrev pub AllAsk : HeaderValue → List Line → Type 0
AllAsk header world = (n : ℕ) → AsksAll (node_in header n) (of n world)

-- in every run
abbrev pub RunsAskRivals : Type 0
RunsAskRivals = (header : HeaderValue) (events : List Event) → AllAsk header (run header events)

-- by any clocks
abbrev pub ClockedRunsAskRivals : Type 0
ClockedRunsAskRivals = (clocks : Clocks) (header : HeaderValue) (events : List Event) → AllAsk header (run_by clocks header events)
