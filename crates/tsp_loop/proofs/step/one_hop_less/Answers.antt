-- A LOOP carries hops.
use Rattle.std.proofs.Common.{◌≡◌, refl, ◌∙◌}
use Rattle.tsp_rules.specs.Values.{LoopKind}
use Rattle.tsp_base.specs.Words.{carries_hops, body_fits}
use Rattle.tsp_loop.proofs.step.one_hop_less.Goals as goal

pub new-requires : goal.new-requires
unfolding body_fits carries_hops
new-requires c =
    let k : c.kind.result ≡ LoopKind = c.kind.ensures ∙ c.requires in
    rw k refl
