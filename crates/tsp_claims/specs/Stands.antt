-- What the claims stand for that were taken in.
use Rattle.std.specs.Prelude.{◌≡◌, List, ◌∷◌, length}
use Rattle.std.specs.declared.result.Result.{Result, TheVariants.Ok, TheVariants.Err}
use Rattle.tsp_base.specs.{Words.HeaderValue, declared.event.Event.Event, declared.trace.Line2.Line2}
use Rattle.tsp_claims.specs.declared.audit_fault.AuditFault.{AuditFault, TheVariants.History, TheVariants.OutOfMemory}
use Rattle.tsp_claims.specs.ClaimedHistory.{Claim, claimed, events_of, lines_in, posts_of}
use Rattle.tsp_claims.specs.{Fitting.Fit, Fitting.Misfit, Fitting.acts_of, Listed.booted, Listed.up_in, declared.claims.Claims.Claims}
use Rattle.tsp_history.specs.Histories.{history_of}

-- the claims stand for a header, and for events with the acts that are claimed of them, the newest first
pub record ClaimsStand (header : HeaderValue) (claims : List Claim) (c : Claims) : Type 0 where
  pub header_is : c.header ≡ header
  pub count : c.events ≡ length claims
  pub told : c.told ≡ lines_in claims
  pub history : history_of c.lines.lines ≡ claimed header claims
  pub posts_are : c.posts.items ≡ posts_of header claims
  pub up_is : up_in c.up.items ≡ booted (events_of claims)

-- an event, and the acts of the lines that are claimed of it
abbrev pub claim_of : Event → List Line2 → Claim
claim_of e lines = record { event = e; acts = acts_of lines }

-- what a call does with an event and the lines that are claimed of it: they fit, and are taken in; or the line at
-- this index doesn't fit, or the event lacks something, or memory is refused, and nothing changes
abbrev pub TakesIn : HeaderValue → List Claim → Event → List Line2 → Result Unit AuditFault → Claims → Type 0
TakesIn header claims e lines (Ok _) new = Fit header claims e lines × ClaimsStand header (claim_of e lines ∷ claims) new
TakesIn header claims e lines (Err (History i)) new = Misfit header claims e lines i × ClaimsStand header claims new
TakesIn header claims e lines (Err OutOfMemory) new = Fit header claims e lines × ClaimsStand header claims new
