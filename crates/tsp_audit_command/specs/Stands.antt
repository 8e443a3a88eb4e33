-- What the values that the treatment of an audit holds stand for, and what each of its calls makes of them.
use Rattle.std.specs.Prelude.{◌≡◌, ℕ, ◌<◌, ◌≤◌, Bool, true, false, List, [], length, reverse, Option, None, codes}
use Rattle.tsp_base.specs.{Words.HeaderValue, declared.event.Event.Event, declared.trace.Line2.Line2}
use Rattle.tsp_audit_command.specs.declared.check.AuditInput.TheVariants.{Schedule, Claims as ClaimsOf}
use Rattle.tsp_audit_command.specs.ClaimReaders.{ClaimReaderValue, FitsAt, FitsHere, MisfitsAt, IsOneLine, lines_told, most_lines, told_more}
use Rattle.tsp_audit_command.specs.{Listings.most_nodes, Listings.refused_next, declared.check.AuditInput.AuditInput, declared.listing.Listing.Listing}
use Rattle.tsp_audit_command.specs.Readings.{Claimed, MayEnd, ReadsOn, IsWanting, PassesLimit, ReachesReading, Reading, RefusesLine, Scheduling, nodes_at}
use Rattle.tsp_claims.specs.Listed.{booted, up_in}
use Rattle.tsp_schedule.specs.declared.stage.Stage.TheVariants.{Untitled as AtUntitled, Titled as AtTitled, Drifted as AtDrifted, Heading as AtHeading}
use Rattle.tsp_schedule.specs.declared.stage.Stage.TheVariants.{Running as AtRunning}
use Rattle.tsp_schedule.specs.{Schedules.Progress, Stages.StageStands, Stages.Advances as AdvancesBy, declared.stage.Stage.Stage}
use Rattle.tsp_lines.specs.{Outputs.Hands, declared.treatment.Stop.Stop}
use Rattle.tsp_lines.specs.declared.treatment.Stop.TheVariants.{Bad, Limit, WriteFault, OutOfMemory}
use Rattle.tsp_run.specs.Run.{last_at}

-- the listing stands for a header and these events, which are given newest first
pub record ListingStands (header : HeaderValue) (events : List Event) (listing : Listing) : Type 0 where
  pub header_is : listing.header ≡ header
  pub events_are : listing.events.items ≡ reverse events
  pub last_is : listing.last ≡ last_at events
  pub up_is : up_in listing.up.items ≡ booted events

-- what is held stands for a reading that has come so far
abbrev pub EventStands : Reading → AuditInput → Type 0
EventStands (Scheduling p) (Schedule stage) = StageStands ListingStands p stage
EventStands (Claimed c) (ClaimsOf claiming) = claiming ≡ c
EventStands _ _ = ⊥

-- what is held stands for these lines, whichever way they are read
abbrev pub ReadingStands : AuditInput → List (List ℕ) → Type 0
ReadingStands held lines = (r : Reading) → ReachesReading (reverse lines) r → EventStands r held

-- a line was accepted: it brings the reading to one place, and to no other, and what is held stands for that
pub record AdvancesReading (r : Reading) (line : List ℕ) (next : AuditInput) : Type 0 where
  pub to : Reading
  pub goes : ReadsOn r line to
  pub stands_for : EventStands to next
  pub only : (other : Reading) → ReadsOn r line other → other ≡ to

-- a line was not accepted, for this reason: it may not follow, it passes a limit, or there was no memory
abbrev pub HaltsReading : Reading → List ℕ → Stop → Type 0
HaltsReading r line (Bad cause) = RefusesLine r line cause
HaltsReading r line Limit = PassesLimit r line
HaltsReading r line WriteFault = ⊥
HaltsReading r line OutOfMemory = Unit {0}

-- events were not passed, for this reason: they can't be (`history`), or there was no memory
abbrev pub Unpassed : Option ClaimReaderValue → Stop → Type 0
Unpassed next (Bad cause) = (next ≡ None) × (cause ≡ codes "history")
Unpassed next Limit = ⊥
Unpassed next WriteFault = ⊥
Unpassed next OutOfMemory = Unit {0}

-- a line was added to those of the event at hand
abbrev pub AddsLine : ClaimReaderValue → Line2 → ClaimReaderValue → Type 0
AddsLine c l now = FitsHere c l × (lines_told c < most_lines) × (now ≡ told_more c l)

-- a line was not added: it doesn't fit (`history`), it fits after 20,000 lines (a limit), or there was no memory
abbrev pub HaltsAdding : ClaimReaderValue → Line2 → Stop → Type 0
HaltsAdding c l (Bad cause) = (¬ FitsHere c l) × (cause ≡ codes "history")
HaltsAdding c l Limit = FitsHere c l × (most_lines ≤ lines_told c)
HaltsAdding c l WriteFault = ⊥
HaltsAdding c l OutOfMemory = Unit {0}

-- a line was added to those of its event, once the events before that were passed
abbrev pub TellsMore : ClaimReaderValue → Line2 → ClaimReaderValue → Type 0
TellsMore c l now = (here : ClaimReaderValue) × FitsAt c l here × (lines_told here < most_lines) × (now ≡ told_more here l)

-- a line was not added to those of its event: as above, or an event before it couldn't be passed
abbrev pub HaltsTelling : ClaimReaderValue → Line2 → Stop → Type 0
HaltsTelling c l (Bad cause) = MisfitsAt c l × (cause ≡ codes "history")
HaltsTelling c l Limit = (here : ClaimReaderValue) × FitsAt c l here × (most_lines ≤ lines_told here)
HaltsTelling c l WriteFault = ⊥
HaltsTelling c l OutOfMemory = Unit {0}

-- a claimed line was read, and added to those of its event
abbrev pub ClaimAdvances : ClaimReaderValue → List ℕ → ClaimReaderValue → Type 0
ClaimAdvances c line now = (l : Line2) × IsOneLine line l × TellsMore c l now

-- whether the last line of a schedule was read
abbrev pub is_over : Stage Listing → Bool
is_over (AtRunning run) = run.over
is_over _ = false

-- a line of a schedule was accepted, with at most 16 nodes; the flag says whether it was the last one
abbrev pub ReadsSchedule : Progress → List ℕ → Stage Listing → Bool → Type 0
ReadsSchedule p line stage over = (a : AdvancesBy refused_next ListingStands p line stage) × (nodes_at a.to ≤ most_nodes) × (is_over stage ≡ over)

-- the last line of a schedule of at most 16 nodes was read
abbrev pub IsLast : Stage Listing → Type 0
IsLast (AtRunning run) = (run.over ≡ true) × (length run.handler.header.nodes ≤ most_nodes)
IsLast _ = ⊥

-- the same of what is held: the claims may begin
abbrev pub MayClaim : AuditInput → Type 0
MayClaim (Schedule stage) = IsLast stage
MayClaim (ClaimsOf claiming) = ⊥

-- a schedule of which a line after the header was read has so many nodes; before that this says nothing
abbrev pub HasNodes : Stage Listing → ℕ → Type 0
HasNodes AtUntitled count = Unit {0}
HasNodes (AtTitled version) count = Unit {0}
HasNodes (AtDrifted header) count = Unit {0}
HasNodes (AtHeading header) count = Unit {0}
HasNodes (AtRunning run) count = count ≡ length run.handler.header.nodes

-- exactly the verdict was put into the output, and the input may end
abbrev pub Concludes : ClaimReaderValue → Option (List ℕ) → List ℕ → Option (List ℕ) → List ℕ → Type 0
Concludes c written held now keeps = (more : List ℕ) × Hands written held now keeps more × MayEnd (Claimed c) more

-- nothing was put into the output: an event that is left lacks something, a write failed, or there was no memory
abbrev pub HaltsConcluding : ClaimReaderValue → Option (List ℕ) → List ℕ → Option (List ℕ) → List ℕ → Stop → Type 0
HaltsConcluding c written held now keeps (Bad cause) = Hands written held now keeps [] × IsWanting (Claimed c) cause
HaltsConcluding c written held now keeps Limit = ⊥
HaltsConcluding c written held now keeps WriteFault = Hands written held now keeps []
HaltsConcluding c written held now keeps OutOfMemory = Hands written held now keeps []
