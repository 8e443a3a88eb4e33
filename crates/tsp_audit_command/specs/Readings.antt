-- Reading the input of an audit line by line: how far the lines have come, which line may follow, and why one may not.
-- The causes are words: those of a schedule, and after it `line` and `history`.
use Rattle.std.specs.Prelude.{◌≡◌, ◌⊎◌, ℕ, ◌<◌, ◌≤◌, List, [], ◌∷◌, length, None, Some, codes, Option}
use Rattle.tsp_audit.specs.{Premised.premises_of, Settings.HasClocks, Verdicts.IsFound, declared.verdict.Failure.Failure}
use Rattle.tsp_base.specs.{Words.HeaderValue, declared.trace.Line2.Line2}
use Rattle.tsp_promises.specs.Setting.{Setting}
use Rattle.tsp_audit_command.specs.ClaimReaders.{ClaimReaderValue, FitsAt, MisfitsAt, IsOneLine, lines_told, most_lines, passes_all, told_more, unclaimed}
use Rattle.tsp_audit_command.specs.{Listings.most_nodes, Listings.refused_next, Texts.verdict_text}
use Rattle.tsp_claims.specs.ClaimedHistory.{Claim}
use Rattle.tsp_schedule.specs.Schedules.{Progress, Untitled, Titled, Drifted, Heading, Running, Ended, GoesOn as GoesOnBy, Refuses as RefusesBy}
use Rattle.tsp_schedule.specs.Schedules.{Limits as LimitsBy, Lacks as LacksBy}
use Rattle.tsp_script.specs.ActLines.{SpellsTrace}

-- how far the lines of an input have come
pub data Reading : Type 0 where
  -- the schedule, up to some line before its last one, `end`
  Scheduling : (p : Progress) → Reading
  -- the whole schedule, and claimed lines after it, maybe none
  Claimed : (c : ClaimReaderValue) → Reading

-- how far the lines of a schedule bring the reading: after its last one nothing is claimed yet
abbrev pub reading_of : Progress → Reading
reading_of Untitled = Scheduling Untitled
reading_of (Titled version) = Scheduling (Titled version)
reading_of (Drifted drift) = Scheduling (Drifted drift)
reading_of (Heading header) = Scheduling (Heading header)
reading_of (Running header events) = Scheduling (Running header events)
reading_of (Ended header events) = Claimed (unclaimed header events)

-- how many nodes a schedule has so far; 0 before its first one
abbrev pub nodes_at : Progress → ℕ
nodes_at Untitled = 0
nodes_at (Titled version) = 0
nodes_at (Drifted drift) = 0
nodes_at (Heading header) = length header.nodes
nodes_at (Running header events) = length header.nodes
nodes_at (Ended header events) = length header.nodes

-- a line may follow, and this is how far it brings the reading: a line that the schedule goes on by, with at most 16
-- nodes, or a claimed line that fits, after fewer than 20,000
abbrev pub ReadsOn : Reading → List ℕ → Reading → Type 0
ReadsOn (Scheduling p) line next = (q : Progress) × GoesOnBy refused_next p line q × (nodes_at q ≤ most_nodes) × (next ≡ reading_of q)
ReadsOn (Claimed c) line next = (l : Line2) × (here : ClaimReaderValue) × IsOneLine line l × FitsAt c l here × (lines_told here < most_lines) ×
    (next ≡ Claimed (told_more here l))

-- these lines, which are given newest first, bring the reading so far
abbrev pub ReachesReading : List (List ℕ) → Reading → Type 0
ReachesReading [] r = r ≡ Scheduling Untitled
ReachesReading (line ∷ before) r = (q : Reading) × ReachesReading before q × ReadsOn q line r

-- a line may not follow, for this cause: in the schedule for that of the schedule; after it for `line` where it is no
-- line of a trace, and for `history` where it is one that doesn't fit
abbrev pub RefusesLine : Reading → List ℕ → List ℕ → Type 0
RefusesLine (Scheduling p) line cause = RefusesBy refused_next p line cause
RefusesLine (Claimed c) line cause = (((l : Line2) → SpellsTrace line l → ⊥) × (cause ≡ codes "line")) ⊎ ((l : Line2) × IsOneLine line l × MisfitsAt c l ×
    (cause ≡ codes "history"))

-- a line may not follow only since it passes a limit: its event is one more than 20,000; or it is the line of a 17th
-- node, which the header would take; or it is a claimed line that fits, after 20,000
abbrev pub PassesLimit : Reading → List ℕ → Type 0
PassesLimit (Scheduling p) line = LimitsBy refused_next p line ⊎ ((q : Progress) × GoesOnBy refused_next p line q × (most_nodes < nodes_at q))
PassesLimit (Claimed c) line = (l : Line2) × (here : ClaimReaderValue) × IsOneLine line l × FitsAt c l here × (most_lines ≤ lines_told here)

-- this is found of these claims: the first failure, or none, under the premises that all these events keep, with the
-- clocks of the header
abbrev pub GivesVerdict : HeaderValue → List Claim → Option Failure → Type 0
GivesVerdict header claims found = (setting : Setting) → HasClocks header setting → IsFound (premises_of header claims) setting header claims found

-- the input may end, and these octets are its last output: the verdict on all events, which can all be passed
abbrev pub MayEnd : Reading → List ℕ → Type 0
MayEnd (Scheduling p) more = ⊥
MayEnd (Claimed c) more = (all : ClaimReaderValue) × (found : Option Failure) × (passes_all c ≡ Some all) × GivesVerdict all.header all.passed found ×
    (more ≡ verdict_text found)

-- the input may not end yet, for this cause: the schedule has not ended; or, for `history`, one of the events that are
-- left lacks something
abbrev pub IsWanting : Reading → List ℕ → Type 0
IsWanting (Scheduling p) cause = LacksBy p cause
IsWanting (Claimed c) cause = (passes_all c ≡ None) × (cause ≡ codes "history")
