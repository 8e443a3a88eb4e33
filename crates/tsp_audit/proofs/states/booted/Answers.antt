use Rattle.std.proofs.Common.{◌≡◌, ◌∷◌, ap, ◌∙◌, refl, List}
use Rattle.tsp_base.specs.Words.{Line, dids, of, lives}
use Rattle.tsp_history.specs.Histories.{line_of}
use Rattle.tsp_audit.proofs.StateLemmas.{node_boot}
use Rattle.tsp_audit.proofs.states.booted.Goals as goal

pub returns : goal.returns
returns c before upto deed is =
    let lives_is : c.counts_at.result.lives ≡ lives (dids (of c.args.line.now.node (line_of c.args.line.now ∷ before))) = c.counts_at.ensures.lives ∙
    ap (λ (h : List Line). lives (dids (of c.args.line.now.node h))) upto in
    node_boot c.args.line.now.node (line_of c.args.line.now) before c.args.was _ refl deed is refl lives_is refl refl refl
