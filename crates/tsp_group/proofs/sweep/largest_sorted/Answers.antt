use Rattle.std.proofs.Common.{arith, ◌≡◌, ◌∙◌, ◌-◌, ℕ, ℤ, List, length, ap, subst}
use Rattle.tsp_group.specs.{Groups.group_of, Windows.IsBest}
use Rattle.tsp_group.proofs.{BestWindows.best_IsLargest, LargestGroup.group_of_IsLargest, LargestGroup.IsLargest_unique}
use Rattle.tsp_group.proofs.sweep.largest_sorted.Goals as goal

pub returns-clause-group : goal.returns-clause-group
returns-clause-group c =
    let same : c.loop-window.values.items ≡ c.args.values.now.items = c.loop-window.invariant.items ∙ c.begin-window.ensures.items in
    let end : c.loop-window.window.end ≡ length c.args.values.now.items = omega (
      arith,
      c.len.ensures.value,
      c.loop-window.invariant.window.inside,
      ap length same,
    ) in
    let best : IsBest c.args.span c.args.values.now.items (c.loop-window.window.end - c.loop-window.window.first) (length c.args.values.now.items)
    c.loop-window.best =
    subst (λ (k : ℕ). IsBest c.args.span c.args.values.now.items (c.loop-window.window.end - c.loop-window.window.first) k c.loop-window.best) end
    (subst (λ (xs : List ℤ). IsBest c.args.span xs (c.loop-window.window.end - c.loop-window.window.first) c.loop-window.window.end c.loop-window.best) same
    c.loop-window.invariant.best) in
    IsLargest_unique c.args.span c.args.values.now.items c.loop-window.best (group_of c.args.span c.args.values.now.items)
    (best_IsLargest c.args.span c.args.values.now.items (c.loop-window.window.end - c.loop-window.window.first) c.loop-window.best c.requires.ascending
    c.requires.some best)
    (group_of_IsLargest c.args.span c.args.values.now.items c.requires.some)
