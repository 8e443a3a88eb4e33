-- What was passed is judged.
use Rattle.std.proofs.Common.{subst, sym, ℕ, List}
use Rattle.tsp_audit.specs.{Ends.EndsAt, Verdicts.AuditStands}
use Rattle.tsp_audit_command.specs.{ClaimReaders.ClaimReaderValue, Readings.GivesVerdict, Sound.claims_on}
use Rattle.tsp_claims.specs.ClaimedHistory.{Claim}
use Rattle.tsp_audit_command.proofs.claim_reader.ClaimReader.judge.Goals as goal

pub returns : goal.returns
returns c =
    let i = c.self.inside in
    let s = c.self.invariant in
    let passed : List Claim = claims_on i.events.items i.ends.items i.claims in
    let ends : EndsAt i.claims.header passed c.as_slice.result.now = subst (λ (t : List ℕ). EndsAt i.claims.header passed t) (sym c.as_slice.ensures.value)
    s.ends_at in
    let audit : AuditStands i.premises i.claims.header passed c.in_ok-audit.audit = c.in_ok-audit.ensures i.claims.header passed s.stand s.dated ends in
    let found : GivesVerdict i.claims.header passed c.failure.result = c.failure.ensures _ i.claims.header passed
    (subst (λ p. AuditStands p i.claims.header passed c.in_ok-audit.audit) s.premises_are audit) in
    subst (λ (v : ClaimReaderValue). GivesVerdict v.header v.passed c.failure.result) c.self.view_is found
