-- The claimed history is that of the lines.
use Rattle.std.proofs.Common.{◌≡◌, ◌∙◌, ◌+ℤ◌, ap, rules, to_z, of_z, ℤ}
use Rattle.std.specs.Int.{w64, w128}
use Rattle.tsp_base.specs.{Words.HeaderValue, Words.dids, Words.of, Words.moved, declared.header.NodeLine.NodeLine}
use Rattle.tsp_claims.specs.ClaimedHistory.{claimed}
use Rattle.tsp_claims.proofs.claims.Claims.base.Goals as goal
use Rattle.tsp_history.specs.Histories.{history_of}
use Rattle.tsp_run.specs.Setup.{node_line}

pub returns : goal.returns
returns c header claims s =
    let is : history_of c.lines.result.now ≡ claimed header claims = ap (λ ns. history_of ns) c.lines.ensures.lines ∙ s.history in
    let moved_is : c.moved_at.result ≡ moved (dids (of c.args.node (claimed header claims))) = c.moved_at.ensures.moved ∙
    ap (λ h. moved (dids (of c.args.node h))) is in
    let sum : to_z w128 (of_z w128 (to_z w128 (of_z w128 c.from.result) +ℤ to_z w128 (of_z w128 c.moved_at.result))) ≡ c.from.result +ℤ c.moved_at.result =
    search rules in
    let fits : to_z w64 (of_z w64 c.line.result.now.wall) ≡ c.line.result.now.wall = search rules in
    let wall_is : c.from.result ≡ (node_line header c.args.node).wall = c.from.ensures ∙ fits ∙ ap (λ (l : NodeLine). l.wall) c.line.ensures.line ∙
    ap (λ (k : HeaderValue). (node_line k c.args.node).wall) s.header_is in
    sum ∙ ap (λ (z : ℤ). z +ℤ c.moved_at.result) wall_is ∙ ap (λ (z : ℤ). (node_line header c.args.node).wall +ℤ z) moved_is
