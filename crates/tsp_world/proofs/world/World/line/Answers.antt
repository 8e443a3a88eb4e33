-- The node is one of the header's.
use Rattle.std.proofs.Common.{◌≡◌, ◌<◌, ◌∙◌, ap, subst, sym, arith, get_or, length}
use Rattle.std.proofs.lemmas.Option.{slice_get-get_or}
use Rattle.tsp_rules.specs.Values.{NodeLine}
use Rattle.tsp_base.specs.Words.{KeepsDrift}
use Rattle.tsp_run.{proofs.NetworkLemmas.some_same, specs.Setup.nobody}
use Rattle.tsp_world.proofs.world.World.line.Goals as goal
use Rattle.tsp_world.proofs.world.World.line.Goals.{After-index-nodes-node}

within : (c : After-index-nodes-node) → c.args.node < length c.args.self.now.header.nodes
within c = subst (λ k. c.args.node < k) c.args.self.now.places c.requires.node

found : (c : After-index-nodes-node) → c.index-nodes-node.result ≡ get_or c.args.self.now.header.nodes c.args.node c.index-nodes-node.result
found c = c.index-nodes-node.is ∙ ap (λ l. get_or l c.args.node c.index-nodes-node.result) c.nodes.ensures.nodes

pub returns-clause-line : goal.returns-clause-line
returns-clause-line c =
    let nodes = c.args.self.now.header.nodes in
    found c ∙ some_same (sym (slice_get-get_or nodes c.args.node c.index-nodes-node.result (within c)) ∙ slice_get-get_or nodes c.args.node nobody (within c))

pub returns-clause-kept : goal.returns-clause-kept
returns-clause-kept c =
    let header = c.nodes.ensures.valid in
    let kept = subst (λ (l : NodeLine). KeepsDrift c.args.self.now.header.drift l) (sym (found c)) (header.kept c.args.node c.index-nodes-node.result
    (within c)) in
    record { name = kept.name; rate = (let rate = kept.rate in let small = header.small in omega (arith, rate, small)); wall = kept.wall }
