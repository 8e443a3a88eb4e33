-- Nothing is claimed yet.
use Rattle.std.proofs.Common.{subst, sym}
use Rattle.tsp_audit_command.{proofs.SoundLemmas.Sound_begun, proofs.SoundLemmas.view_begun, specs.Sound.Sound}
use Rattle.tsp_audit_command.proofs.claim_reader.ClaimReader.begin.Goals as goal

pub invariant_of-result : goal.invariant_of-result
invariant_of-result c =
    let stand = c.in_ok-claims.ensures.stand in
    subst (λ h. Sound h c.args.events.items c.in_ok-claims.claims c.new-2.result.items c.new-3.result.items c.all_kept.result) (sym stand.header_is)
    (Sound_begun c.args.header c.args.events.items c.in_ok-claims.claims c.new-2.result.items c.new-3.result.items c.all_kept.result c.requires.header
    c.requires.listed stand
    c.new-2.ensures.items c.new-3.ensures.items c.in_ok-claims.ensures.counted (c.all_kept.ensures c.args.header))

pub returns : goal.returns
returns c = view_begun c.args.header c.args.events.items c.in_ok-claims.claims _ _ c.in_ok-claims.ensures.stand c.new-2.ensures.items c.new-3.ensures.items
