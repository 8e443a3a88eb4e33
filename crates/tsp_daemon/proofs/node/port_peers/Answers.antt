use Rattle.std.proofs.Common.{◌∙◌, ◌∷◌, [], ◌++◌, ◌+◌, List, ap, sym, arith}
use Rattle.std.proofs.lemmas.List.FromFn.{map-range_with_len_more}
use Rattle.tsp_rules.specs.Values.{PeerId}
use Rattle.tsp_daemon.specs.Nodes.{numbered_peer}
use Rattle.tsp_daemon.proofs.node.port_peers.Goals as goal

pub loop-more-preserved : goal.loop-more-preserved
loop-more-preserved c =
    let more = map-range_with_len_more (λ k. numbered_peer k) (c.args.done + 1) c.loop-more.more (c.args.done + 1 + c.loop-more.more) (omega arith) in
    c.in_ok-push-2.ensures.items ∙ ap (λ (ps : List PeerId). ps ++ numbered_peer (c.args.done + 1 + c.loop-more.more) ∷ []) c.loop-more.invariant ∙
    ap (λ (ps : List PeerId). numbered_peer 0 ∷ ps) (sym more)
