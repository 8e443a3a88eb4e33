-- The claimed lines after a schedule: how far they have come, which line may follow, and why one may not. An event is
-- passed once all its lines were read and it lacks nothing; the first one that isn't passed is the event at hand.
use Rattle.std.specs.Prelude.{◌≡◌, ◌⊎◌, ℕ, zero, suc, ◌+◌, ◌-◌, if◌then◌else◌, List, [], ◌∷◌, ◌++◌, length, reverse, Option, None, Some}
use Rattle.tsp_base.specs.{Words.HeaderValue, declared.event.Event.Event, declared.trace.Line2.Line2}
use Rattle.tsp_claims.specs.{ClaimedHistory.Claim, ClaimedHistory.lines_in, Stands.claim_of, declared.tally.Tally.Tally}
use Rattle.tsp_claims.specs.Fitting.{FitsNext, counted, lacks, untold}
use Rattle.tsp_script.specs.ActLines.{SpellsTrace}

-- the most lines that may be claimed, of all events together
abbrev pub most_lines : ℕ
most_lines = 20000

-- how far the claimed lines have come
pub record ClaimReaderValue : Type 0 where
  -- the header of the schedule
  pub header : HeaderValue
  -- the events that were passed, the newest first, each with the acts that are claimed of it
  pub passed : List Claim
  -- the lines so far of the event at hand, in their order
  pub told : List Line2
  -- the event at hand, and those after it, the oldest first; empty where all were passed
  pub ahead : List Event

-- octets are the trace's line with these values, and with no others
abbrev pub IsOneLine : List ℕ → Line2 → Type 0
IsOneLine line l = SpellsTrace line l × ((other : Line2) → SpellsTrace line other → other ≡ l)

-- where the claims begin: of none of these events, which are given newest first, anything is claimed yet
abbrev pub unclaimed : HeaderValue → List Event → ClaimReaderValue
unclaimed header events = record { header = header; passed = []; told = []; ahead = reverse events }

-- the tally of some lines with these counted too: whether there are any, how many are posts, whether one is a Took
abbrev pub tallied : Tally → List Line2 → Tally
tallied t [] = t
tallied t (l ∷ rest) = tallied (counted t l.placed.act) rest

-- how many lines are claimed so far, with those of the event at hand
abbrev pub lines_told : ClaimReaderValue → ℕ
lines_told c = lines_in c.passed + length c.told

-- the event at hand is passed, where there is one and it lacks nothing with its lines, else nothing comes of it; a boot
-- needs its Boot, and octets, and a take that has lines, their Took
abbrev pub pass_first : HeaderValue → List Claim → List Line2 → List Event → Option ClaimReaderValue
pass_first header passed told [] = None
pass_first header passed told (e ∷ rest) = if lacks e (tallied untold told) then None else Some (record {
  header = header;
  passed = claim_of e told ∷ passed;
  told = [];
  ahead = rest;
})

-- the same, of claimed lines that have come so far
abbrev pub pass_one : ClaimReaderValue → Option ClaimReaderValue
pass_one c = pass_first c.header c.passed c.told c.ahead

-- the second of two steps, where the first can be made
abbrev pub and_then : Option ClaimReaderValue → (ClaimReaderValue → Option ClaimReaderValue) → Option ClaimReaderValue
and_then None step = None
and_then (Some c) step = step c

-- this many events are passed, one after the other, where each is there and lacks nothing; else none
abbrev pub passes : ℕ → ClaimReaderValue → Option ClaimReaderValue
passes zero c = Some c
passes (suc n) c = and_then (pass_one c) (λ d. passes n d)

-- the events before the one with this number, from 1, are passed, where that can be; the event at hand has the number
-- after those of the passed ones. Where the event with this number was passed before, nothing changes
abbrev pub passed_up_to : ClaimReaderValue → ℕ → Option ClaimReaderValue
passed_up_to c event = passes (event - (length c.passed + 1)) c

-- all events that are left are passed, where that can be
abbrev pub passes_all : ClaimReaderValue → Option ClaimReaderValue
passes_all c = passes (length c.ahead) c

-- a line fits as the next one of the event at hand; where there is none no line fits
abbrev pub FitsFirst : HeaderValue → List Claim → List Line2 → List Event → Line2 → Type 0
FitsFirst header passed told [] l = ⊥
FitsFirst header passed told (e ∷ rest) l = FitsNext header passed e (tallied untold told) l

-- the same, of claimed lines that have come so far
abbrev pub FitsHere : ClaimReaderValue → Line2 → Type 0
FitsHere c l = FitsFirst c.header c.passed c.told c.ahead l

-- a line fits: the events before its own lack nothing, and passing them brings the claims here, where the line fits as
-- the next one of its event
abbrev pub FitsAt : ClaimReaderValue → Line2 → ClaimReaderValue → Type 0
FitsAt c l here = (passed_up_to c l.event ≡ Some here) × FitsHere here l

-- a line doesn't fit: an event before its own lacks something or isn't there; or its event was passed, or isn't there,
-- or the line doesn't fit as the next one of it
abbrev pub MisfitsAt : ClaimReaderValue → Line2 → Type 0
MisfitsAt c l = (passed_up_to c l.event ≡ None) ⊎ ((here : ClaimReaderValue) × (passed_up_to c l.event ≡ Some here) × ¬ FitsHere here l)

-- the claims with one line more of the event at hand
abbrev pub told_more : ClaimReaderValue → Line2 → ClaimReaderValue
told_more c l = record c { told = c.told ++ l ∷ [] }
