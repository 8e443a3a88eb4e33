-- A line fits as the next one of the event at hand.
use Rattle.std.proofs.Common.{◌≡◌, sym, subst, ◌↔◌, IsTrue, rules, length, Some}
use Rattle.std.{proofs.lemmas.Option.slice_get_within, specs.List.slice_get}
use Rattle.tsp_audit_command.specs.{ClaimReaders.FitsFirst, ClaimReaders.FitsHere, Sound.claims_on}
use Rattle.tsp_claims.specs.Fitting.{FitsNext}
use Rattle.tsp_audit_command.proofs.SoundLemmas.{ahead_at, few_passed, got_at}
use Rattle.tsp_audit_command.proofs.claim_reader.ClaimReader.fits.Goals as goal

pub fits-requires-clause-events : goal.fits-requires-clause-events
fits-requires-clause-events c =
    let i = c.self.inside in
    let at : slice_get i.events.items (length i.ends.items) ≡ Some c.in-Some.e.now =
    got_at c.deref.result.now i.events.items c.len.result (length i.ends.items) c.in-Some.e.now c.deref.ensures.value (search rules)
    c.in-Some.ensures.lookup.3.0 c.in-Some.ensures.lookup.1 in
    few_passed i.claims.header i.events.items i.claims i.ends.items i.pending.items i.premises c.self.invariant
    (slice_get_within i.events.items (length i.ends.items) c.in-Some.e.now at)

pub returns-in-Some : goal.returns-in-Some
returns-in-Some c =
    let i = c.self.inside in
    let e = c.event.result in
    let l = c.args.line.now in
    let passed = claims_on i.events.items i.ends.items i.claims in
    let read : slice_get i.events.items (length i.ends.items) ≡ Some c.in-Some.e.now =
    got_at c.deref.result.now i.events.items c.len.result (length i.ends.items) c.in-Some.e.now c.deref.ensures.value (search rules)
    c.in-Some.ensures.lookup.3.0 c.in-Some.ensures.lookup.1 in
    let at : slice_get i.events.items (length i.ends.items) ≡ Some e = subst (λ x. slice_get i.events.items (length i.ends.items) ≡
    Some x) (sym c.event.ensures) read in
    let next : IsTrue c.fits.result ↔ FitsNext i.claims.header passed e i.claims.tally l = c.fits.ensures i.claims.header passed c.self.invariant.stand in
    subst (λ v. IsTrue c.fits.result ↔ FitsHere v l) c.self.view_is
    (subst (λ es. IsTrue c.fits.result ↔ FitsFirst i.claims.header passed i.pending.items es l) (sym (ahead_at i.events.items (length i.ends.items) e at))
    (subst (λ t. IsTrue c.fits.result ↔ FitsNext i.claims.header passed e t l) c.self.invariant.tally_is next))
