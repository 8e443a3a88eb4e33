-- What is kept of the node is so.
use Rattle.std.proofs.Common.{◌≡◌, ◌<◌, ◌∙◌, Some, ap, arith, length, rules, slice_get, sym, vec_len}
use Rattle.std.proofs.lemmas.Option.{slice_get-get_or}
use Rattle.tsp_world.proofs.world.World.idles.Goals as goal

pub returns-in-Some-clause-idles : goal.returns-in-Some-clause-idles
returns-in-Some-clause-idles c earlier =
    let world = c.args.self.now in
    let many : vec_len world.dues ≡ length world.dues.items = search rules in
    let inside : c.args.node < length world.dues.items = (let same = world.due_places in let node = c.requires.node in omega (arith, many, same, node)) in
    let known : slice_get world.dues.items c.args.node ≡ Some (Some c.in-Some.due) = slice_get-get_or world.dues.items c.args.node c.index.result.now inside ∙
    ap Some (sym c.index.ensures ∙ c.in-Some.is) in
    (c.in-Some.due, (λ node there. world.dues_are c.args.node c.in-Some.due node known there), c.is_before.ensures earlier)
