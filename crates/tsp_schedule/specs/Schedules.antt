-- Reading a schedule line by line: how far it is after a list of lines, which line may come next, and why one is refused. Why events are refused is a
-- parameter.
use Rattle.std.specs.Prelude.{◌≡◌, ◌⊎◌, ℕ, ◌<◌, ◌==◌, if◌then◌else◌, false, List, [], ◌∷◌, ◌++◌, length, Some, None, codes, decimal, ◌&&◌, not, Bool, true}
use Rattle.tsp_base.specs.declared.{event.Event.Event, event.EventFault.EventFault, header.NodeLine.NodeLine}
use Rattle.tsp_base.specs.declared.event.EventFault.TheVariants.{TimeBack, NoNode, NoDatagram, NotUp, Limit, OutOfMemory}
use Rattle.tsp_base.specs.Words.{HeaderValue, Joins, KeepsDrift, is_whole}
use Rattle.tsp_script.specs.declared.event_line.EventItem.TheVariants.{Event as EventOf, End}
use Rattle.tsp_script.specs.declared.head_line.HeadItem.{HeadItem}
use Rattle.tsp_script.specs.declared.head_line.HeadItem.TheVariants.{Title, Drift, Strict, Node, Net, NotHead}
use Rattle.tsp_script.specs.{Schedules.SpellsEvent, Schedules.SpellsHead, declared.event_line.EventItem.EventItem}
use Rattle.tsp_schedule.specs.Refusing.{Refusing}

-- how far the reading of a schedule is; the events are newest first
pub data Progress : Type 0 where
  -- no line was read
  Untitled : Progress
  -- the title of this version was read
  Titled : (version : ℕ) → Progress
  -- the title of the second version and the drift were read: `strict` must follow
  Drifted : (drift : ℕ) → Progress
  -- the header was read up to these nodes and networks, maybe none
  Heading : (header : HeaderValue) → Progress
  -- the header is complete, and these events, at least one, were read
  Running : (header : HeaderValue) → (events : List Event) → Progress
  -- the last line was read
  Ended : (header : HeaderValue) → (events : List Event) → Progress

-- a node may be added to the header: nodes come before networks
pub record Takes (header : HeaderValue) (node : NodeLine) : Type 0 where
  pub unjoined : header.nets ≡ []
  pub few : length header.nodes < 64
  pub kept : KeepsDrift header.drift node

-- a network may be added to the header
pub record TakesNet (header : HeaderValue) (members : List ℕ) : Type 0 where
  pub few : length header.nets < 64
  pub joins : Joins (length header.nodes) header.nets members

-- a header may end: it has a node, and where it has networks each node is on one
pub record IsComplete (header : HeaderValue) : Type 0 where
  pub some : 0 < length header.nodes
  pub whole : is_whole header ≡ true

-- the number of the next line of a header: 3 or 4, which means any later one; where elections are strict, the third line said so
abbrev pub next_place : HeaderValue → ℕ
next_place header = if length header.nodes == 0 && not header.strict then 3 else 4

-- after the header, a line is an event that isn't refused, or the last line
abbrev pub RunsOn : Refusing → HeaderValue → List Event → List ℕ → Progress → Type 0
RunsOn refused header events line next =
    ((e : Event) × SpellsEvent line (EventOf e) × (refused header events e ≡ None) × (next ≡ Running header (e ∷ events)))
    ⊎ (SpellsEvent line End × (next ≡ Ended header events))

-- a header without nodes; the flag says whether elections are strict
abbrev pub new_header : ℕ → Bool → HeaderValue
new_header drift strict = record { drift = drift; strict = strict; nodes = []; nets = [] }

-- how far a schedule of this version is after the line of its drift
abbrev pub drifted : ℕ → ℕ → Progress
drifted version drift = if version == 2 then Drifted drift else Heading (new_header drift false)

-- a line may come next, and this is how far the schedule is after it
abbrev pub GoesOn : Refusing → Progress → List ℕ → Progress → Type 0
GoesOn refused Untitled line next = (version : ℕ) × SpellsHead 1 line (Title version) × (next ≡ Titled version)
GoesOn refused (Titled version) line next = (drift : ℕ) × SpellsHead 2 line (Drift drift) × (next ≡ drifted version drift)
GoesOn refused (Drifted drift) line next = SpellsHead 3 line Strict × (next ≡ Heading (new_header drift true))
GoesOn refused (Heading header) line next =
    ((node : NodeLine) × SpellsHead (next_place header) line (Node node) × Takes header node ×
    (next ≡ Heading (record header { nodes = header.nodes ++ node ∷ [] })))
    ⊎ (((members : List ℕ) × SpellsHead (next_place header) line (Net members) × TakesNet header members ×
    (next ≡ Heading (record header { nets = header.nets ++ members ∷ [] })))
    ⊎ (SpellsHead (next_place header) line NotHead × IsComplete header × RunsOn refused header [] line next))
GoesOn refused (Running header events) line next = RunsOn refused header events line next
GoesOn refused (Ended header events) line next = ⊥

-- after these lines, the newest first, a schedule is so far
abbrev pub Reaches : Refusing → List (List ℕ) → Progress → Type 0
Reaches refused [] p = p ≡ Untitled
Reaches refused (line ∷ before) p = (q : Progress) × Reaches refused before q × GoesOn refused q line p

-- the words for a refused event, with the numbers of its fault; a limit has words of its own
abbrev pub IsCause : EventFault → List ℕ → Type 0
IsCause (TimeBack a b) words = words ≡ codes "time-back " ++ decimal a ++ codes " " ++ decimal b
IsCause (NoNode a b) words = words ≡ codes "no-node " ++ decimal a ++ codes " " ++ decimal b
IsCause (NoDatagram a b) words = words ≡ codes "no-datagram " ++ decimal a ++ codes " " ++ decimal b
IsCause (NotUp a) words = words ≡ codes "not-up " ++ decimal a
IsCause (Limit a b) words = ⊥
IsCause OutOfMemory words = ⊥

-- after the header, a line is refused: it is neither an event nor the last line, or its event is refused
abbrev pub RefusesRun : Refusing → HeaderValue → List Event → List ℕ → List ℕ → Type 0
RefusesRun refused header events line cause =
    (((item : EventItem) → SpellsEvent line item → ⊥) × (cause ≡ codes "line"))
    ⊎ ((e : Event) × (fault : EventFault) × SpellsEvent line (EventOf e) × (refused header events e ≡ Some fault) × IsCause fault cause)

-- a line of the header is refused: the grammar doesn't allow it, or it is a node or a network that can't be added, or it ends a header that isn't complete, or
-- it is a `strict` that comes too late
abbrev pub RefusesHeading : HeaderValue → List ℕ → Type 0
RefusesHeading header line =
    ((item : HeadItem) → SpellsHead (next_place header) line item → ⊥)
    ⊎ (((node : NodeLine) × SpellsHead (next_place header) line (Node node) × ¬ Takes header node)
    ⊎ (((members : List ℕ) × SpellsHead (next_place header) line (Net members) × ¬ TakesNet header members)
    ⊎ ((SpellsHead (next_place header) line NotHead × ¬ IsComplete header) ⊎ SpellsHead (next_place header) line Strict)))

-- a line is refused for this cause
abbrev pub Refuses : Refusing → Progress → List ℕ → List ℕ → Type 0
Refuses refused Untitled line cause = ((version : ℕ) → SpellsHead 1 line (Title version) → ⊥) × (cause ≡ codes "header")
Refuses refused (Drifted drift) line cause = (SpellsHead 3 line Strict → ⊥) × (cause ≡ codes "header")
Refuses refused (Titled version) line cause = ((item : HeadItem) → SpellsHead 2 line item → ⊥) × (cause ≡ codes "header")
Refuses refused (Heading header) line cause =
    (RefusesHeading header line × (cause ≡ codes "header"))
    ⊎ (SpellsHead (next_place header) line NotHead × IsComplete header × RefusesRun refused header [] line cause)
Refuses refused (Running header events) line cause = RefusesRun refused header events line cause
Refuses refused (Ended header events) line cause = cause ≡ codes "after-end"

-- after the header, a line is an event that passes a limit
abbrev pub LimitsRun : Refusing → HeaderValue → List Event → List ℕ → Type 0
LimitsRun refused header events line = (e : Event) × (a : ℕ) × (b : ℕ) × SpellsEvent line (EventOf e) × (refused header events e ≡ Some (Limit a b))

-- a line passes a limit
abbrev pub Limits : Refusing → Progress → List ℕ → Type 0
Limits refused Untitled line = ⊥
Limits refused (Titled version) line = ⊥
Limits refused (Drifted drift) line = ⊥
Limits refused (Heading header) line = SpellsHead (next_place header) line NotHead × IsComplete header × LimitsRun refused header [] line
Limits refused (Running header events) line = LimitsRun refused header events line
Limits refused (Ended header events) line = ⊥

-- the input may not end here, for this cause: the header isn't complete, or the last line is missing
abbrev pub Lacks : Progress → List ℕ → Type 0
Lacks Untitled cause = cause ≡ codes "header"
Lacks (Titled version) cause = cause ≡ codes "header"
Lacks (Drifted drift) cause = cause ≡ codes "header"
Lacks (Heading header) cause = ((¬ IsComplete header) × (cause ≡ codes "header")) ⊎ (IsComplete header × (cause ≡ codes "no-end"))
Lacks (Running header events) cause = cause ≡ codes "no-end"
Lacks (Ended header events) cause = ⊥

-- the input may end
abbrev pub IsEnded : Progress → Type 0
IsEnded (Ended header events) = Unit {0}
IsEnded _ = ⊥
