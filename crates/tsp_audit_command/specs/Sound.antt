-- What is known of the events and the claimed lines while lines are read.
use Rattle.std.specs.Prelude.{◌≡◌, ℕ, ◌+◌, ◌-◌, ◌≤◌, List, [], ◌∷◌, ◌++◌, length, drop, take, reverse}
use Rattle.tsp_audit.specs.{Ends.AreDated, Ends.EndsAt, Premised.premises_of, declared.premises.Premises.Premises}
use Rattle.tsp_base.specs.declared.{act.Placed.Placed, event.Event.Event, place.Port.Port, trace.Line2.Line2}
use Rattle.tsp_base.specs.Words.{HeaderValue, Acts, Begins, Deed, Line}
use Rattle.tsp_audit_command.specs.{ClaimReaders.most_lines, ClaimReaders.tallied, Listings.AreListed, Listings.IsAudited}
use Rattle.tsp_claims.specs.{ClaimedHistory.Claim, ClaimedHistory.claimed, ClaimedHistory.events_of, Stands.ClaimsStand}
use Rattle.tsp_claims.specs.{Fitting.FitsNext, Fitting.counted, Fitting.untold, declared.claims.Claims.Claims, declared.tally.Tally.Tally}
use Rattle.tsp_history.specs.Histories.{history_of}

-- the act of a line of a history, on its port; none of a mark
abbrev pub placed_by : Port → Deed → List Placed
placed_by port Begins = []
placed_by port (Acts act) = record { port = port; act = act } ∷ []

-- the acts of lines, in their order; the lines are given newest first
abbrev pub acts_in : List Line → List Placed
acts_in [] = []
acts_in (l ∷ before) = acts_in before ++ placed_by l.port l.did.deed

-- the first of some numbers; 0 where there is none
abbrev pub first_end : List ℕ → ℕ
first_end [] = 0
first_end (n ∷ before) = n

-- what a history claims of these events, of each of which the lines stand up to such a number; all are given newest first
abbrev pub claims_by : List Event → List ℕ → List Line → List Claim
claims_by [] ends history = []
claims_by (e ∷ events) [] history = []
claims_by (e ∷ events) (n ∷ ends) history =
    record { event = e; acts = acts_in (take (length history - first_end ends) history) } ∷
    claims_by events ends (drop (length history - first_end ends) history)

-- what is claimed of the first events, by where the lines of each end; both are given oldest first
abbrev pub claims_on : List Event → List ℕ → Claims → List Claim
claims_on events ends claims = claims_by (reverse (take (length ends) events)) (reverse ends) (history_of claims.lines.lines)

-- lines fit as the next ones of an event, after those that were counted; the event may still lack something
abbrev pub FitSoFar : (Event → Tally → Line2 → Type 0) → Event → Tally → List Line2 → Type 0
FitSoFar fits e t [] = Unit {0}
FitSoFar fits e t (l ∷ rest) = fits e t l × FitSoFar fits e (counted t l.placed.act) rest

-- lines fit as the first ones of the event at hand; where there is none there are no lines
abbrev pub FitAtHand : HeaderValue → List Claim → List Event → List Line2 → Type 0
FitAtHand header passed [] lines = lines ≡ []
FitAtHand header passed (e ∷ rest) lines = FitSoFar (FitsNext header passed) e untold lines

-- what a reader of claimed lines holds: the first events were passed, and their lines end there in the history; the
-- next event is at hand with the pending lines, and the claims and the premises are what all that comes to
pub record Sound (header : HeaderValue) (events : List Event) (claims : Claims) (ends : List ℕ) (pending : List Line2) (premises : Premises) : Type 0 where
  pub header_is : IsAudited header
  pub listed : AreListed (length header.nodes) events
  pub within : length ends ≤ length events
  pub stand : ClaimsStand header (claims_on events ends claims) claims
  pub dated : AreDated (length header.nodes) (claims_on events ends claims)
  pub ends_at : EndsAt header (claims_on events ends claims) ends
  pub last_end : first_end (reverse ends) ≡ length (claimed header (claims_on events ends claims))
  pub events_are : events_of (claims_on events ends claims) ≡ reverse (take (length ends) events)
  pub at_hand : FitAtHand header (claims_on events ends claims) (drop (length ends) events) pending
  pub tally_is : claims.tally ≡ tallied untold pending
  pub premises_are : premises ≡ premises_of header (claims_on events ends claims)
  pub few_lines : claims.told + length pending ≤ most_lines
