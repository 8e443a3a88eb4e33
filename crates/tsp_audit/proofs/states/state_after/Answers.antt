use Rattle.std.proofs.Common.{◌≡◌, ◌∷◌, ap, subst, sym, ◌∙◌, refl, rules, List, to_z, of_z, ℤ}
use Rattle.std.specs.Int.{w128}
use Rattle.tsp_rules.specs.Values.{Boot}
use Rattle.tsp_base.specs.Words.{Acts, Line, dids, of, all_corrects, moved}
use Rattle.tsp_history.specs.{Clocks.IsSumOf, Histories.deed_of, Histories.history_of, Histories.line_of}
use Rattle.tsp_audit.specs.Changes.{IsCorrect}
use Rattle.tsp_audit.proofs.StateLemmas.{boot_loud, correct_loud, node_correct, node_still, still_deed, sum_more}
use Rattle.tsp_audit.proofs.states.state_after.Goals as goal

pub returns-clause-is : goal.returns-clause-is
returns-clause-is c upto tell first is =
    let still = still_deed c.args.line.now.node (line_of c.args.line.now) (history_of c.args.before.now) refl (search rules) (search rules) in
    node_still c.args.line.now.node (line_of c.args.line.now) (history_of c.args.before.now) c.args.was still is

pub returns-then-is_boot-clause-same : goal.returns-then-is_boot-clause-same
returns-then-is_boot-clause-same c quiet = let boots : deed_of c.args.line.now.act ≡ Acts Boot = search rules in
    absurd (boot_loud (deed_of c.args.line.now.act) boots quiet)

pub returns-then-is_correct-clause-is : goal.returns-then-is_correct-clause-is
returns-then-is_correct-clause-is c upto tell first is =
    let n = c.args.line.now.node in
    let correct : IsCorrect (deed_of c.args.line.now.act) = search rules in
    let same : to_z w128 (of_z w128 c.moved_at.result) ≡ c.moved_at.result = search rules in
    let moved_is : to_z w128 (of_z w128 c.moved_at.result) ≡ moved (dids (of n (line_of c.args.line.now ∷ history_of c.args.before.now))) = same ∙
    (c.moved_at.ensures.moved ∙ ap (λ (h : List Line). moved (dids (of n h))) upto) in
    let bounded : IsSumOf 4294967295 (to_z w128 (of_z w128 c.moved_at.result)) = subst (λ (z : ℤ). IsSumOf 4294967295 z) (sym same)
    (sum_more _ c.moved_at.result c.requires.few c.moved_at.ensures.bounded) in
    let corrects_is = c.counts_at.ensures.corrects ∙ ap (λ (h : List Line). all_corrects (dids (of n h))) upto in
    node_correct n (line_of c.args.line.now) (history_of c.args.before.now) c.args.was _ refl correct is first (c.correction_at.ensures tell) moved_is bounded
    refl corrects_is

pub returns-then-is_correct-clause-same : goal.returns-then-is_correct-clause-same
returns-then-is_correct-clause-same c quiet = let corrects : IsCorrect (deed_of c.args.line.now.act) = search rules in
    absurd (correct_loud (deed_of c.args.line.now.act) corrects quiet)
