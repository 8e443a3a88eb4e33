-- What a stage of the reading of a schedule stands for.
use Rattle.std.specs.Prelude.{◌≡◌, ◌⊎◌, ℕ, Bool, true, false, List, [], ◌∷◌, reverse, None, Some, codes, Option, MatchBool, MatchOption, MatchResult}
use Rattle.std.specs.declared.result.Result.{Result}
use Rattle.tsp_base.specs.declared.event.EventFault.TheVariants.{TimeBack, NoNode, NoDatagram, NotUp, Limit as NoRoom, OutOfMemory as NoMemory}
use Rattle.tsp_base.specs.declared.header.NodeLine.{NodeLine}
use Rattle.tsp_base.specs.{Words.HeaderValue, declared.event.Event.Event, declared.event.EventFault.EventFault}
use Rattle.tsp_schedule.specs.declared.stage.Stage.TheVariants.{Untitled as AtUntitled, Titled as AtTitled, Drifted as AtDrifted, Heading as AtHeading}
use Rattle.tsp_schedule.specs.declared.stage.Stage.TheVariants.{Running as AtRunning}
use Rattle.tsp_schedule.specs.{Refusing.Refusing, declared.run.Run.Run, declared.stage.Stage.Stage}
use Rattle.tsp_schedule.specs.Schedules.{Progress, Untitled, Titled, Drifted, Heading, Running, Ended, GoesOn, Reaches, Refuses, RefusesRun, Limits, LimitsRun}
use Rattle.tsp_schedule.specs.Schedules.{Takes, TakesNet, IsComplete, IsCause, new_header}
use Rattle.tsp_lines.specs.{Lines.line_ahead, declared.treatment.Stop.Stop}
use Rattle.tsp_lines.specs.declared.treatment.Stop.TheVariants.{Bad, Limit, WriteFault, OutOfMemory}

-- a stage stands for this progress
abbrev pub StageStands : {C : Type 0} → (HeaderValue → List Event → C → Type 0) → Progress → Stage C → Type 0
StageStands stands Untitled AtUntitled = Unit {0}
StageStands stands (Titled version) (AtTitled read) = read ≡ version
StageStands stands (Drifted drift) (AtDrifted held) = held ≡ new_header drift true
StageStands stands (Heading header) (AtHeading held) = held ≡ header
StageStands stands (Running header events) (AtRunning run) = (run.over ≡ false) × stands header events run.handler
StageStands stands (Ended header events) (AtRunning run) = (run.over ≡ true) × stands header events run.handler
StageStands stands _ _ = ⊥

-- the part after a header stands for this progress
abbrev pub RunStands : {C : Type 0} → (HeaderValue → List Event → C → Type 0) → Progress → Run C → Type 0
RunStands stands p run = StageStands stands p (AtRunning run)

-- a line was accepted: this is how far the schedule is after it, and no other progress is possible
pub record Advances {C : Type 0} (refused : Refusing) (stands : HeaderValue → List Event → C → Type 0) (p : Progress) (line : List ℕ) (next : Stage C) : Type 0
  where
    pub to : Progress
    pub goes : GoesOn refused p line to
    pub stands_for : StageStands stands to next
    pub only : (other : Progress) → GoesOn refused p line other → other ≡ to

-- a line after the header was accepted
abbrev pub RunAdvances : {C : Type 0} → Refusing → (HeaderValue → List Event → C → Type 0) → Progress → List ℕ → Run C → Type 0
RunAdvances refused stands p line run = Advances refused stands p line (AtRunning run)

-- the line of an event was accepted: the schedule ran before it, and has one event more after it
abbrev pub AdvancesByEvent : {C : Type 0} → Refusing → (HeaderValue → List Event → C → Type 0) → Progress → List ℕ → Stage C → Type 0
AdvancesByEvent refused stands p line next =
    (header : HeaderValue) × (events : List Event) × (e : Event) × (p ≡ Running header events) × (a : Advances refused stands p line next) ×
    (a.to ≡ Running header (e ∷ events))

-- a line was refused
abbrev pub Halts : Refusing → Progress → List ℕ → Stop → Type 0
Halts refused p line (Bad cause) = Refuses refused p line cause
Halts refused p line Limit = Limits refused p line
Halts refused p line WriteFault = ⊥
Halts refused p line OutOfMemory = Unit {0}

-- the stage stands for these lines, however they are read
abbrev pub StageHolds : {C : Type 0} → Refusing → (HeaderValue → List Event → C → Type 0) → Stage C → List (List ℕ) → Type 0
StageHolds refused stands stage lines = (p : Progress) → Reaches refused (reverse lines) p → StageStands stands p stage

-- the first line after the header was refused: the header isn't complete, or for a cause of any later line
abbrev pub HaltsFirst : Refusing → HeaderValue → List ℕ → Stop → Type 0
HaltsFirst refused header line (Bad cause) = ((¬ IsComplete header) × (cause ≡ codes "header")) ⊎ (IsComplete header × RefusesRun refused header [] line cause)
HaltsFirst refused header line Limit = IsComplete header × LimitsRun refused header [] line
HaltsFirst refused header line WriteFault = ⊥
HaltsFirst refused header line OutOfMemory = Unit {0}

-- a node was refused
abbrev pub HaltsNode : HeaderValue → NodeLine → Stop → Type 0
HaltsNode header node (Bad cause) = (¬ Takes header node) × (cause ≡ codes "header")
HaltsNode header node Limit = ⊥
HaltsNode header node WriteFault = ⊥
HaltsNode header node OutOfMemory = Unit {0}

-- a network was refused
abbrev pub HaltsNet : HeaderValue → List ℕ → Stop → Type 0
HaltsNet header members (Bad cause) = (¬ TakesNet header members) × (cause ≡ codes "header")
HaltsNet header members Limit = ⊥
HaltsNet header members WriteFault = ⊥
HaltsNet header members OutOfMemory = Unit {0}

-- an event was refused
abbrev pub HaltsEvent : Refusing → HeaderValue → List Event → Event → Stop → Type 0
HaltsEvent refused header events e (Bad cause) = (fault : EventFault) × (refused header events e ≡ Some fault) × IsCause fault cause
HaltsEvent refused header events e Limit = (a : ℕ) × (b : ℕ) × (refused header events e ≡ Some (NoRoom a b))
HaltsEvent refused header events e WriteFault = ⊥
HaltsEvent refused header events e OutOfMemory = Unit {0}

-- why the reading stops at a refused event
abbrev pub StopsFor : EventFault → Stop → Type 0
StopsFor (TimeBack a b) (Bad cause) = IsCause (TimeBack a b) cause
StopsFor (NoNode a b) (Bad cause) = IsCause (NoNode a b) cause
StopsFor (NoDatagram a b) (Bad cause) = IsCause (NoDatagram a b) cause
StopsFor (NotUp a) (Bad cause) = IsCause (NotUp a) cause
StopsFor (NoRoom a b) Limit = Unit {0}
StopsFor NoMemory OutOfMemory = Unit {0}
StopsFor _ _ = ⊥

-- a line after the header was read where the last line wasn't read yet: it was accepted, or refused
abbrev pub ReadsOn : {C : Type 0} → Refusing → (HeaderValue → List Event → C → Type 0) → Run C → List ℕ → Run C → Result (Unit {0}) Stop → Type 0
ReadsOn refused stands old line new result = (header : HeaderValue) (events : List Event) → stands header events old.handler →
    MatchResult result (λ _. RunAdvances refused stands (Running header events) line new) (Halts refused (Running header events) line)

-- an event was treated: it happened, or was refused
abbrev pub Treats : {C : Type 0} → Refusing → (HeaderValue → List Event → C → Type 0) → Run C → Event → Run C → Result (Unit {0}) Stop → Type 0
Treats refused stands old e new result = (header : HeaderValue) (events : List Event) → stands header events old.handler →
    MatchResult result (λ _. (refused header events e ≡ None) × stands header (e ∷ events) new.handler) (HaltsEvent refused header events e)

-- an event was tried: it happened, or nothing has changed
abbrev pub TriesEvent : {C : Type 0} → Refusing → (HeaderValue → List Event → C → Type 0) → Run C → Event → Run C → Bool → Type 0
TriesEvent refused stands old e new result = (header : HeaderValue) (events : List Event) → stands header events old.handler →
    MatchBool result ((refused header events e ≡ None) × stands header (e ∷ events) new.handler) (stands header events new.handler)

-- the first of some lines after the header was tried where the last line wasn't read yet: it was accepted, and has so many octets with its line feed, or
-- nothing has changed
abbrev pub TriesFront : {C : Type 0} → Refusing → (HeaderValue → List Event → C → Type 0) → Run C → List ℕ → Run C → Option ℕ → Type 0
TriesFront refused stands old text new result = (header : HeaderValue) (events : List Event) → stands header events old.handler →
    MatchOption result (RunStands stands (Running header events) new) (λ count. AdvancesByEvent refused stands (Running header events) (line_ahead text count)
    (AtRunning new))
