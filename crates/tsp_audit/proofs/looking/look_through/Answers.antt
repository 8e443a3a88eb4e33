-- One event more was looked at.
use Rattle.std.proofs.Common.{◌≡◌, ◌∙◌, ◌∷◌, ap, sym, subst, arith, ℕ, length, get_or, Option}
use Rattle.tsp_audit.specs.{Looking.Looks, declared.verdict.Failure.Failure}
use Rattle.tsp_audit.proofs.ThroughLemmas.{Next, next_place, reached_all, reached_failure, reached_next, reached_none}
use Rattle.tsp_claims.specs.ClaimedHistory.{claimed}
use Rattle.tsp_audit.proofs.looking.look_through.Goals as goal

pub loop-i-init : goal.loop-i-init
loop-i-init c header told stand dated ends notes = reached_none c.args.premises header told c.args.notes.now notes

pub returns-in-Some : goal.returns-in-Some
returns-in-Some c header told stand dated ends notes =
    let r = c.loop-i.invariant header told stand dated ends notes in
    let many = ends.many in
    let at = r.count in
    let n : Next told r.before = next_place told r.before r.place (omega (arith, many, at)) in
    let end_is : get_or c.args.ends.now c.loop-i.i 0 ≡ length (claimed header (n.claim ∷ r.before)) = ap (λ (k : ℕ). get_or c.args.ends.now k 0) (sym at) ∙
    ends.end_is n.claim r.before n.place in
    let looks : Looks c.args.premises header (n.claim ∷ r.before) (claimed header r.before) c.look_at.new.notes c.in_ok-failure.field-0 =
    c.in_ok-failure.ensures header told n.claim r.before stand dated n.place r.from_is end_is (omega (arith, at)) r.notes_are in
    reached_failure c.args.premises header told c.loop-i.i c.loop-i.from c.loop-i.notes c.look_at.new.notes c.in-Some.failure r n
    (subst (λ (f : Option Failure). Looks c.args.premises header (n.claim ∷ r.before) (claimed header r.before) c.look_at.new.notes f) c.in-Some.is looks)

pub loop-i-preserved : goal.loop-i-preserved
loop-i-preserved c header told stand dated ends notes =
    let r = c.loop-i.invariant header told stand dated ends notes in
    let many = ends.many in
    let at = r.count in
    let n : Next told r.before = next_place told r.before r.place (omega (arith, many, at)) in
    let end_is : get_or c.args.ends.now c.loop-i.i 0 ≡ length (claimed header (n.claim ∷ r.before)) = ap (λ (k : ℕ). get_or c.args.ends.now k 0) (sym at) ∙
    ends.end_is n.claim r.before n.place in
    let looks : Looks c.args.premises header (n.claim ∷ r.before) (claimed header r.before) c.look_at.new.notes c.in_ok-failure.field-0 =
    c.in_ok-failure.ensures header told n.claim r.before stand dated n.place r.from_is end_is (omega (arith, at)) r.notes_are in
    reached_next c.args.premises header told c.loop-i.i c.loop-i.from (get_or c.args.ends.now c.loop-i.i 0) c.loop-i.notes c.look_at.new.notes r n end_is
    (subst (λ (f : Option Failure). Looks c.args.premises header (n.claim ∷ r.before) (claimed header r.before) c.look_at.new.notes f) c.in_default.is looks)

pub returns : goal.returns
returns c header told stand dated ends notes = reached_all c.args.premises header told c.loop-i.i c.loop-i.from c.loop-i.notes (let many = ends.many in
    omega (arith, many)) (c.loop-i.invariant header told stand dated ends notes)
