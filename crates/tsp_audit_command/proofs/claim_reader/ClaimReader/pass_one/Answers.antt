-- The event at hand lacks nothing, and is passed.
use Rattle.std.proofs.Common.{◌≡◌, ◌∙◌, ap, sym, subst, rules, List, ℕ, length, take, reverse, [], ◌∷◌, ◌++◌, Some, false, OnOk, OnErr}
use Rattle.std.{proofs.lemmas.Option.slice_get_within, specs.List.slice_get}
use Rattle.tsp_audit.specs.Premised.{kept_with}
use Rattle.tsp_base.specs.Words.{Line}
use Rattle.tsp_audit_command.specs.{ClaimReaders.pass_one, Sound.Sound, Sound.claims_on}
use Rattle.tsp_claims.specs.{ClaimedHistory.posts_of, Fitting.Fit, Fitting.lacks, Fitting.untold, Stands.ClaimsStand, Stands.claim_of}
use Rattle.tsp_audit_command.proofs.SoundLemmas.{Sound_kept, Sound-passed, at-fit, at-listed, few_passed, got_at, view-passed}
use Rattle.tsp_history.proofs.NoteLemmas.{length_history}
use Rattle.tsp_audit_command.proofs.claim_reader.ClaimReader.pass_one.Goals.{After-clear, After-event-e}
use Rattle.tsp_audit_command.proofs.claim_reader.ClaimReader.pass_one.Goals as goal

-- the event at hand is the next one
at_hand : (c : After-event-e) → slice_get c.self.inside.events.items (length c.self.inside.ends.items) ≡ Some c.event-e.result
at_hand c =
    let i = c.self.inside in
    got_at c.deref.result.now i.events.items c.len-at.result (length i.ends.items) c.in-Some.e.now c.deref.ensures.value (search rules)
    c.in-Some.ensures.lookup.3.0 c.in-Some.ensures.lookup.1 ∙ ap Some (sym c.event-e.ensures)

-- the claims stand for it too
stand_on : (c : After-clear) → let i = c.self.inside in
    ClaimsStand i.claims.header (claim_of c.event-e.result i.pending.items ∷ claims_on i.events.items i.ends.items i.claims) c.add.new.self
stand_on c =
    let i = c.self.inside in
    let claims = claim_of c.event-e.result c.as_slice.result.now ∷ claims_on i.events.items i.ends.items i.claims in
    let took : OnOk c.add.result (ClaimsStand i.claims.header claims c.add.new.self) = c.add.ensures.taken i.claims.header _ c.self.invariant.stand in
    let given : ClaimsStand i.claims.header claims c.add.new.self = search rules in
    rw c.as_slice.ensures.value at given

pub add-requires-clause-time : goal.add-requires-clause-time
add-requires-clause-time c =
    let i = c.self.inside in
    let at = at_hand (goal.at.add-requires-clause-time c).After-event-e in
    (at-listed i.claims.header i.events.items i.claims i.ends.items i.pending.items i.premises c.self.invariant c.event-e.result at).0

pub add-requires-clause-node : goal.add-requires-clause-node
add-requires-clause-node c =
    let i = c.self.inside in
    let at = at_hand (goal.at.add-requires-clause-node c).After-event-e in
    (at-listed i.claims.header i.events.items i.claims i.ends.items i.pending.items i.premises c.self.invariant c.event-e.result at).1

pub add-requires-clause-lines : goal.add-requires-clause-lines
add-requires-clause-lines c = rw (← c.as_slice.ensures.value) at c.self.invariant.few_lines

pub add-requires-clause-events : goal.add-requires-clause-events
add-requires-clause-events c =
    let i = c.self.inside in
    let at = at_hand (goal.at.add-requires-clause-events c).After-event-e in
    few_passed i.claims.header i.events.items i.claims i.ends.items i.pending.items i.premises c.self.invariant
    (slice_get_within i.events.items (length i.ends.items) c.event-e.result at)

pub add-requires-clause-fit : goal.add-requires-clause-fit
add-requires-clause-fit c =
    let i = c.self.inside in
    let at = at_hand (goal.at.add-requires-clause-fit c).After-event-e in
    let passed = claims_on i.events.items i.ends.items i.claims in
    let none : lacks c.event-e.result i.claims.tally ≡ false = sym c.lacks.ensures ∙ c.if-lacks.false in
    let fit = at-fit i.claims.header i.events.items i.claims i.ends.items i.pending.items i.premises c.self.invariant c.event-e.result at none in
    (i.claims.header, passed, c.self.invariant.stand, subst (λ ls. Fit i.claims.header passed c.event-e.result ls) (sym c.as_slice.ensures.value) fit)

pub invariant_of-self-2 : goal.invariant_of-self-2
invariant_of-self-2 c =
    let i = c.self.inside in
    let e = c.event-e.result in
    let at = at_hand (goal.at.invariant_of-self-2 c).After-event-e in
    let stand = stand_on (goal.at.invariant_of-self-2 c).After-clear in
    let passed = claims_on i.events.items i.ends.items i.claims in
    let none : lacks e i.claims.tally ≡ false = sym c.lacks.ensures ∙ c.if-lacks.false in
    let more_is : c.push_reserved.new.self.items ≡ i.ends.items ++ (length c.lines.result.now) ∷ [] = search rules in
    let n_is = sym (length_history c.lines.result.now) ∙ ap (λ (h : List Line). length h) (c.lines.ensures.lines i.claims.header _ stand) in
    let kept_is : c.keep_with-premises.result ≡ kept_with i.premises (reverse (take (length i.ends.items) i.events.items)) (posts_of i.claims.header passed) e =
    (let len : c.len-at.result ≡ length i.ends.items = search rules in
    c.keep_with-premises.ensures ∙ (ap (λ n. kept_with i.premises (reverse (take n c.deref-2.result.now)) c.posts.result.now e) len
    ∙ (ap (λ es. kept_with i.premises (reverse (take (length i.ends.items) es)) c.posts.result.now e) c.deref-2.ensures.value
    ∙ ap (λ ps. kept_with i.premises (reverse (take (length i.ends.items) i.events.items)) ps e)
    (c.posts.ensures i.claims.header passed c.self.invariant.stand)))) in
    let fresh : c.add.new.self.tally ≡ untold = search rules in
    subst (λ h. Sound h i.events.items c.add.new.self c.push_reserved.new.self.items c.clear.new.self.items c.keep_with-premises.result) (sym stand.header_is)
    (Sound-passed i.claims.header i.events.items i.claims i.ends.items i.pending.items i.premises c.self.invariant e at none c.add.new.self
    c.push_reserved.new.self.items (length c.lines.result.now) _ _ stand more_is n_is c.clear.ensures.items fresh kept_is)

pub returns : goal.returns
returns c =
    let i = c.self.inside in
    let at = at_hand (goal.at.returns c).After-event-e in
    let none : lacks c.event-e.result i.claims.tally ≡ false = sym c.lacks.ensures ∙ c.if-lacks.false in
    let more_is : c.push_reserved.new.self.items ≡ i.ends.items ++ (length c.lines.result.now) ∷ [] = search rules in
    ap (λ v. pass_one v) (sym c.self.view_is)
    ∙ view-passed i.claims.header i.events.items i.claims i.ends.items i.pending.items i.premises c.self.invariant c.event-e.result at none c.add.new.self
    c.push_reserved.new.self.items (length c.lines.result.now) _ (stand_on (goal.at.returns c).After-clear) more_is c.clear.ensures.items

-- without memory the claims stand for what they did
pub invariant_of-self-then-is_err-2 : goal.invariant_of-self-then-is_err-2
invariant_of-self-then-is_err-2 c =
    let i = c.self.inside in
    let passed = claims_on i.events.items i.ends.items i.claims in
    let refused : OnErr c.add.result (ClaimsStand i.claims.header passed c.add.new.self) = c.add.ensures.refused i.claims.header _ c.self.invariant.stand in
    let stand : ClaimsStand i.claims.header passed c.add.new.self = search rules in
    let ends : c.reserve.new.self.items ≡ i.ends.items = search rules in
    let same : c.add.new.self.tally ≡ i.claims.tally = search rules in
    subst (λ (t : List ℕ). Sound c.add.new.self.header i.events.items c.add.new.self t i.pending.items i.premises) (sym ends)
    (subst (λ h. Sound h i.events.items c.add.new.self i.ends.items i.pending.items i.premises) (sym stand.header_is)
    (Sound_kept i.claims.header i.events.items i.claims i.ends.items i.pending.items i.premises c.self.invariant c.add.new.self stand same))
