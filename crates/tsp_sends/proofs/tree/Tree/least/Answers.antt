use Rattle.std.proofs.Common.{ap, sym}
use Rattle.tsp_sends.{proofs.PlaceLemmas.IsLeast_root, specs.Trees.TreeValue}
use Rattle.tsp_sends.proofs.tree.Tree.least.Goals as goal

pub returns : goal.returns
returns c =
    rw (ap (λ (t : TreeValue). t.deadlines) (sym c.self.view_is)) (IsLeast_root c.self.inside.store.nodes c.self.inside.places c.self.inside.levels
    c.root.result c.self.invariant (sym c.root.ensures))
