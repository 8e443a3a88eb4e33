-- The verdict on what is claimed. The newest claim is the first.
use Rattle.std.specs.Prelude.{◌≡◌, ℕ, ◌+◌, List, ◌∷◌, length, Option, None, Some}
use Rattle.std.specs.declared.result.Result.{Result, TheVariants.Ok, TheVariants.Err}
use Rattle.tsp_audit.specs.declared.{audit.Audit.Audit, premises.Premises.Premises, remembered.Remembered.Remembered}
use Rattle.tsp_audit.specs.declared.verdict.{Failure.Failure, Verdict.Verdict, Verdict.TheVariants.Holds, Verdict.TheVariants.Fails}
use Rattle.tsp_audit.specs.{Judged.FailsNow, Parts.AllKeep, Remembered.RememberedStands, Settings.HasClocks, Settings.Timely}
use Rattle.tsp_rules.specs.Values.{Event, Line2}
use Rattle.tsp_base.specs.Words.{HeaderValue, Within}
use Rattle.tsp_promises.specs.{Everywhere.Everywhere, Setting.Setting}
use Rattle.tsp_claims.specs.declared.audit_fault.AuditFault.TheVariants.{History, OutOfMemory}
use Rattle.tsp_claims.specs.{ClaimedHistory.Claim, ClaimedHistory.claimed, Fitting.Fit, Fitting.Misfit, Listed.NamesNode}
use Rattle.tsp_claims.specs.{Stands.ClaimsStand, Stands.claim_of, declared.audit_fault.AuditFault.AuditFault}

-- all parts hold up to each of these events, and before the first event
abbrev pub AllHold : Premises → Setting → HeaderValue → List Claim → Type 0
AllHold premises setting header claims = (older : List Claim) → Within older claims → AllKeep premises setting (claimed header older)

-- the event with this number is the least up to which a part fails, and the part with this number is the least that fails up to it
pub record FailsFirst (premises : Premises) (setting : Setting) (header : HeaderValue) (claims : List Claim) (number event : ℕ) : Type 0 where
  pub claim : Claim
  pub before : List Claim
  pub place : Within (claim ∷ before) claims
  pub event_is : length before + 1 ≡ event
  pub fails : FailsNow premises setting (claimed header (claim ∷ before)) number
  pub earlier : AllHold premises setting header before

-- what was found: no part fails up to any event, or this one fails first
abbrev pub IsFound : Premises → Setting → HeaderValue → List Claim → Option Failure → Type 0
IsFound premises setting header claims None = AllHold premises setting header claims
IsFound premises setting header claims (Some f) = FailsFirst premises setting header claims f.part f.event

-- this is found of all events: no part fails up to any, and these are the notes of all lines then; or this part fails
-- first
pub record IsFoundOfAll (premises : Premises) (header : HeaderValue) (told : List Claim) (notes : Remembered) (found : Option Failure) : Type 0 where
  pub found_is : (setting : Setting) → HasClocks header setting → IsFound premises setting header told found
  pub notes_are : found ≡ None → RememberedStands premises header (claimed header told) notes

-- a verdict on these claims, under the premises that the whole schedule keeps
abbrev pub IsVerdict : Premises → Setting → HeaderValue → List Claim → Verdict → Type 0
IsVerdict premises setting header claims Holds = AllHold premises setting header claims
IsVerdict premises setting header claims (Fails number) = (event : ℕ) × FailsFirst premises setting header claims number event

-- an audit stands for the premises of a schedule, its header, and events with the acts that are claimed of them
pub record AuditStands (premises : Premises) (header : HeaderValue) (claims : List Claim) (a : Audit) : Type 0 where
  pub claims_stand : ClaimsStand header claims a.claims
  pub premises_are : a.premises ≡ premises
  pub timely : Timely (claimed header claims)
  pub found : (setting : Setting) → HasClocks header setting → IsFound premises setting header claims a.failed
  pub named : Everywhere (λ c before. NamesNode (length header.nodes) c.event) claims
  pub notes : a.failed ≡ None → RememberedStands premises header (claimed header claims) a.notes

-- what a call does with an event and the lines that are claimed of it: they fit and are taken in, and this is the
-- verdict; or the line at this index doesn't fit, or the event lacks something, or they fit and memory is refused, and
-- nothing changes
abbrev pub Audits : Premises → HeaderValue → List Claim → Event → List Line2 → Result Verdict AuditFault → Audit → Type 0
Audits premises header claims e lines (Ok v) new = Fit header claims e lines × AuditStands premises header (claim_of e lines ∷ claims) new ×
    ((setting : Setting) → HasClocks header setting → IsVerdict premises setting header (claim_of e lines ∷ claims) v)
Audits premises header claims e lines (Err (History i)) new = Misfit header claims e lines i × AuditStands premises header claims new
Audits premises header claims e lines (Err OutOfMemory) new = Fit header claims e lines × AuditStands premises header claims new
