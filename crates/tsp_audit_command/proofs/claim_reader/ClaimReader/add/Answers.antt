-- The line fits, and there is room for it.
use Rattle.std.proofs.Common.{◌≡◌, ◌<◌, ◌∙◌, ap, sym, subst, rules, ◌∷◌, ◌++◌, []}
use Rattle.tsp_audit_command.specs.ClaimReaders.{FitsHere, lines_told, most_lines, told_more}
use Rattle.tsp_audit_command.specs.Sound.{Sound, claims_on}
use Rattle.tsp_claims.specs.Stands.{ClaimsStand}
use Rattle.tsp_audit_command.proofs.SoundLemmas.{Sound_added, few_posts, view_added}
use Rattle.tsp_audit_command.proofs.claim_reader.ClaimReader.add.Goals as goal

pub count-requires : goal.count-requires
count-requires c = let i = c.self.inside in few_posts i.claims.header i.events.items i.claims i.ends.items i.pending.items i.premises c.self.invariant

pub invariant_of-self-2 : goal.invariant_of-self-2
invariant_of-self-2 c =
    let i = c.self.inside in
    let yes : FitsHere c.args.self.now c.args.line = search rules in
    let room : lines_told c.args.self.now < most_lines = search rules in
    let more_is : c.push_reserved.new.self.items ≡ i.pending.items ++ c.args.line ∷ [] = search rules in
    let stand : ClaimsStand i.claims.header (claims_on i.events.items i.ends.items i.claims) c.count.new.self =
    c.count.ensures.stand i.claims.header (claims_on i.events.items i.ends.items i.claims) c.self.invariant.stand in
    subst (λ h. Sound h i.events.items c.count.new.self i.ends.items c.push_reserved.new.self.items i.premises) (sym stand.header_is)
    (Sound_added i.claims.header i.events.items i.claims i.ends.items i.pending.items i.premises c.self.invariant c.args.line c.push_reserved.new.self.items
    c.count.new.self stand
    (subst (λ v. FitsHere v c.args.line) (sym c.self.view_is) yes)
    (subst (λ v. lines_told v < most_lines) (sym c.self.view_is) room)
    more_is c.count.ensures.counted)

pub returns : goal.returns
returns c =
    let i = c.self.inside in
    let yes : FitsHere c.args.self.now c.args.line = search rules in
    let room : lines_told c.args.self.now < most_lines = search rules in
    let more_is : c.push_reserved.new.self.items ≡ i.pending.items ++ c.args.line ∷ [] = search rules in
    let stand : ClaimsStand i.claims.header (claims_on i.events.items i.ends.items i.claims) c.count.new.self =
    c.count.ensures.stand i.claims.header (claims_on i.events.items i.ends.items i.claims) c.self.invariant.stand in
    let added = view_added i.claims.header i.events.items i.claims i.ends.items i.pending.items i.premises c.self.invariant c.args.line
    c.push_reserved.new.self.items c.count.new.self stand more_is in
    (yes, room, added ∙ ap (λ v. told_more v c.args.line) c.self.view_is)
