-- What an event makes of an audit.
use Rattle.std.proofs.Common.{arith, ◌≤◌, ℕ, sym, subst, inl, inr, ◌≡◌, ◌+◌, Bool, List, [], ◌∷◌, length, refl, Option, None, Some}
use Rattle.std.specs.declared.result.Result.TheVariants.{Err}
use Rattle.tsp_audit.specs.Parts.{Acting, Agreeing, AllKeep, Backing, Leading, Measuring}
use Rattle.tsp_audit.specs.Verdicts.{AllHold, AuditStands, Audits, FailsFirst, IsFound, IsVerdict}
use Rattle.tsp_audit.proofs.NumberedLemmas.{OfStep, grown_all, made, AllName, numbered_claims}
use Rattle.tsp_audit.specs.{Remembered.HasLineRoom, Remembered.RememberedStands, declared.remembered.Remembered.Remembered}
use Rattle.tsp_audit.specs.{declared.verdict.Failure.Failure, Agreeing.Numbered, Looking.Finds, Looking.Grown, Named.named}
use Rattle.tsp_audit.specs.{Settings.HasClocks, Settings.Timely, declared.audit.Audit.Audit, declared.premises.Premises.Premises}
use Rattle.tsp_rules.specs.Values.{Placed, Event, Take, Line2}
use Rattle.tsp_base.specs.Words.{HeaderValue, Acts, Begins, Line, Step, first_port, joined, line_of, Within}
use Rattle.tsp_base.proofs.PlaceLemmas.{Within_all, Within_tail}
use Rattle.tsp_promises.specs.Setting.{Setting}
use Rattle.tsp_claims.specs.declared.audit_fault.AuditFault.TheVariants.{History, OutOfMemory}
use Rattle.tsp_claims.specs.ClaimedHistory.{Claim, claimed, events_of, joins_acts, makes_step, posts_of, step_at, step_of, taker, takes_step}
use Rattle.tsp_claims.specs.{declared.claimed.Claimed.Claimed, declared.claims.Claims.Claims, Fitting.acts_of, Listed.booted}
use Rattle.tsp_claims.specs.{Stands.ClaimsStand, Stands.TakesIn, declared.audit_fault.AuditFault.AuditFault}
use Rattle.tsp_run.specs.{Run.event_at, Run.step_tick, declared.address.Address.Address}

-- room for more is room for less
pub room-less : (few many : ℕ) (n : Remembered) → few ≤ many → HasLineRoom many n → HasLineRoom few n
room-less few many n le room = record { acted = omega (arith, le, room.acted); trips = omega (arith, le, room.trips) }

joined_within : (step : Step) (x : ℕ) (acts : List Placed) (h : List Line) → Within h (joined step x acts h)
joined_within step x [] h = Within_all h
joined_within step x (p ∷ rest) h = Within_tail (line_of step x p.port (Acts p.act)) h (joined step x rest (line_of step x p.port (Acts p.act) ∷ h))
    (joined_within step x rest (line_of step x p.port (Acts p.act) ∷ h))

joined_length : (step : Step) (x : ℕ) (acts : List Placed) (h : List Line) → length (joined step x acts h) ≡ length h + length acts
joined_length step x [] h = omega arith
joined_length step x (p ∷ rest) h = omega (arith, joined_length step x rest (line_of step x p.port (Acts p.act) ∷ h))

-- a step at a true time of a schedule, if there is one
abbrev InTime : Option Step → Type 0
InTime = OfStep (λ step. step.at ≤ 1000000000000000)

taken_time : (at k : ℕ) (a : Option Address) → at ≤ 1000000000000000 → InTime (takes_step at k a)
taken_time at k None soon = tt
taken_time at k (Some a) soon = soon

step_time : (header : HeaderValue) (posts : List Claimed) (up : ℕ → Bool) (e : Event) → event_at e ≤ 1000000000000000 → InTime (step_at header posts up e)
step_time header posts up (Take at k) soon = taken_time at k (taker header posts up k) soon
step_time header posts up _ soon = soon

-- a history is a place of what it grows to by a step
pub joins_within : (header : HeaderValue) (o : Option Step) (acts : List Placed) (h : List Line) → Within h (joins_acts header o acts h)
joins_within header None acts h = Within_all h
joins_within header (Some step) acts h =
    Within_tail (line_of step (step_tick header step) first_port Begins) h (joined step (step_tick header step) acts
    (line_of step (step_tick header step) first_port Begins ∷ h)) (joined_within step (step_tick header step) acts
    (line_of step (step_tick header step) first_port Begins ∷ h))

grown_by : (count : ℕ) (header : HeaderValue) (o : Option Step) (acts : List Placed) (h : List Line) → Timely (joins_acts header o acts h) →
    Numbered count (joins_acts header o acts h) → Grown count h (joins_acts header o acts h) (length h)
grown_by count header o acts h timely numbered = record { within = joins_within header o acts h; long = refl; timely = timely; numbered = numbered }

longer_by : (header : HeaderValue) (o : Option Step) (acts : List Placed) (h : List Line) → length (joins_acts header o acts h) ≤ length h + (length acts + 1)
longer_by header None acts h = omega arith
longer_by header (Some step) acts h = omega (
  arith,
  joined_length step (step_tick header step) acts (line_of step (step_tick header step) first_port Begins ∷
      h),
)

-- a claimed history grows by an event at a true time of a schedule
pub grown_claims : (header : HeaderValue) (claims : List Claim) (c : Claim) → event_at c.event ≤ 1000000000000000 → Timely (claimed header claims) →
    AllName (length header.nodes) (c ∷ claims) →
    Grown (length header.nodes) (claimed header claims) (claimed header (c ∷ claims)) (length (claimed header claims))
grown_claims header claims c soon t named =
    let posts : List Claimed = posts_of header claims in
    let up : ℕ → Bool = booted (events_of claims) in
    let timely : Timely (claimed header (c ∷ claims)) =
    grown_all (λ step. step.at ≤ 1000000000000000) (λ l before. l.did.step.at ≤ 1000000000000000) (λ step x port deed s time. time) header
    (step_of header posts up c.event c.acts) c.acts (claimed header claims)
    (made (λ step. step.at ≤ 1000000000000000) (makes_step c.event c.acts) (step_at header posts up c.event) (step_time header posts up c.event soon)) t in
    grown_by (length header.nodes) header (step_of header posts up c.event c.acts) c.acts (claimed header claims) timely
    (numbered_claims (length header.nodes) header (c ∷ claims) named)

pub longer_claims : (header : HeaderValue) (claims : List Claim) (c : Claim) → length (claimed header (c ∷ claims)) ≤ length (claimed header claims) +
    (length c.acts + 1)
longer_claims header claims c = longer_by header (step_of header (posts_of header claims) (booted (events_of claims)) c.event c.acts) c.acts
    (claimed header claims)

-- the failure that was found before, or that the newest event brings, is the first
pub found_more : (premises : Premises) (header : HeaderValue) (claim : Claim) (claims : List Claim) (before found : Option Failure) (notes : Remembered) →
    ((setting : Setting) → HasClocks header setting → IsFound premises setting header claims before) →
    Finds premises header (claim ∷ claims) (claimed header claims) before notes found →
    (setting : Setting) → HasClocks header setting → IsFound premises setting header (claim ∷ claims) found
found_more premises header claim claims (Some f) found notes old same setting has =
    let o = old setting has in
    let later : FailsFirst premises setting header (claim ∷ claims) f.part f.event = record {
      claim = o.claim;
      before = o.before;
      place = inr o.place;
      event_is = o.event_is;
      fails = o.fails;
      earlier = o.earlier;
    } in
    subst (λ (r : Option Failure). IsFound premises setting header (claim ∷ claims) r) (sym same) later
found_more premises header claim claims None None notes old looks setting has = all where
  keeps : AllKeep premises setting (claimed header (claim ∷ claims))
  keeps = looks.1 setting has (old setting has claims (Within_all claims))

  all : (older : List Claim) → Within older (claim ∷ claims) → AllKeep premises setting (claimed header older)
  all older (inl e) = subst (λ (c : List Claim). AllKeep premises setting (claimed header c)) (sym e) keeps
  all older (inr w) = old setting has older w
found_more premises header claim claims None (Some f) notes old looks setting has = record {
  claim = claim;
  before = claims;
  place = inl refl;
  event_is = (let e : f.event ≡ length (claim ∷ claims) = looks.0 in omega (arith, e));
  fails = looks.1 setting has (old setting has claims (Within_all claims));
  earlier = old setting has;
}

pub notes_later : (premises : Premises) (header : HeaderValue) (claim : Claim) (claims : List Claim) (before found : Option Failure) (notes : Remembered) →
    Finds premises header (claim ∷ claims) (claimed header claims) before notes found → found ≡ None →
    RememberedStands premises header (claimed header (claim ∷ claims)) notes
notes_later premises header claim claims (Some f) found notes same none = let bad : ⊥ = cc in absurd bad
notes_later premises header claim claims None None notes looks none = looks.0
notes_later premises header claim claims None (Some f) notes looks none = let bad : ⊥ = cc in absurd bad

pub verdict_is : (premises : Premises) (setting : Setting) (header : HeaderValue) (claims : List Claim) (found : Option Failure) →
    IsFound premises setting header claims found → IsVerdict premises setting header claims (named found)
verdict_is premises setting header claims None m = m
verdict_is premises setting header claims (Some f) m = (f.event, m)

pub acts_length : (lines : List Line2) → length (acts_of lines) ≡ length lines
acts_length [] = refl
acts_length (l ∷ rest) = omega (arith, acts_length rest)

-- nothing fails of nothing
keeps_none : (premises : Premises) (setting : Setting) → AllKeep premises setting []
keeps_none premises setting Backing = record { holds = tt; backs = tt; ends = λ n q. refl }
keeps_none premises setting Leading = tt
keeps_none premises setting Acting = record { spaced = tt; obeyed = λ honest. tt; taken = λ kept. tt; confirmed = λ kept. tt }
keeps_none premises setting Measuring = λ honest words. record { measured = tt; trips = tt }
keeps_none premises setting Agreeing = λ kept. tt

pub holds_none : (premises : Premises) (setting : Setting) (header : HeaderValue) → AllHold premises setting header []
holds_none premises setting header older w = subst (λ (c : List Claim). AllKeep premises setting (claimed header c)) (sym w) (keeps_none premises setting)

-- an audit after a call that changes nothing but where things are kept
pub audit_with : (premises : Premises) (header : HeaderValue) (claims : List Claim) (old : Audit) (c : Claims) (n : Remembered) →
    AuditStands premises header claims old → ClaimsStand header claims c →
    (RememberedStands premises header (claimed header claims) old.notes → RememberedStands premises header (claimed header claims) n) →
    AuditStands premises header claims (record { claims = c; premises = old.premises; notes = n; failed = old.failed })
audit_with premises header claims old c n stands claims_stand was = record {
  claims_stand = claims_stand;
  premises_are = stands.premises_are;
  timely = stands.timely;
  found = stands.found;
  named = stands.named;
  notes = λ none. was (stands.notes none);
}

pub audit_refused : (premises : Premises) (header : HeaderValue) (claims : List Claim) (e : Event) (lines : List Line2) (fault : AuditFault) (old : Audit)
    (c : Claims) (n : Remembered) → AuditStands premises header claims old → TakesIn header claims e lines (Err fault) c →
    (RememberedStands premises header (claimed header claims) old.notes → RememberedStands premises header (claimed header claims) n) →
    Audits premises header claims e lines (Err fault) (record { claims = c; premises = old.premises; notes = n; failed = old.failed })
audit_refused premises header claims e lines (History i) old c n stands refused was =
    (refused.0, audit_with premises header claims old c n stands refused.1 was)
audit_refused premises header claims e lines OutOfMemory old c n stands refused was =
    (refused.0, audit_with premises header claims old c n stands refused.1 was)
