use Rattle.std.proofs.Common.{rules, arith, ◌∙◌, ◌<◌, ◌+◌, ◌<ℤ◌, ◌+ℤ◌, ℤ, pos, sym, subst, FitsSigned, List}
use Rattle.std.{proofs.lemmas.Bool.cases_lt, proofs.lemmas.Int.to_z-of_z, specs.Int.w64, specs.List.All}
use Rattle.tsp_group.specs.{Values.IsNear, Windows.IsWindow, declared.window.Window.Window}
use Rattle.tsp_group.proofs.Slides.{window_near, window_small, window_more, window_less, beyond_first}
use Rattle.tsp_group.proofs.window.Window.slide.Goals as goal

pub reaches-reached-requires-clause-lo : goal.reaches-reached-requires-clause-lo
reaches-reached-requires-clause-lo c = window_near c.args.values.now.items c.args.self.now c.requires.near c.requires.window

pub admit-requires-clause-fits : goal.admit-requires-clause-fits
admit-requires-clause-fits c = window_small c.args.values.now.items c.args.self.now c.requires.near c.requires.small c.requires.window

pub admit-requires-clause-small : goal.admit-requires-clause-small
admit-requires-clause-small c = omega (arith, c.requires.some, c.requires.small)

pub leave-requires-clause-fits : goal.leave-requires-clause-fits
leave-requires-clause-fits c =
    let read : FitsSigned w64 c.look-value.result = search rules in
    let taken = rw (to_z-of_z w64 c.look-value.result read) at c.admit.ensures in
    let more : IsWindow c.args.values.now.items c.admit.new.self = subst (λ (w : Window). IsWindow c.args.values.now.items w) (sym taken)
    (window_more c.args.values.now.items c.args.self.now c.look-value.result c.requires.window c.requires.some c.look-value.ensures.value) in
    window_small c.args.values.now.items c.admit.new.self c.requires.near c.requires.small more

pub leave-requires-clause-lo : goal.leave-requires-clause-lo
leave-requires-clause-lo c =
    let read : FitsSigned w64 c.look-value.result = search rules in
    let taken = rw (to_z-of_z w64 c.look-value.result read) at c.admit.ensures in
    let more : IsWindow c.args.values.now.items c.admit.new.self = subst (λ (w : Window). IsWindow c.args.values.now.items w) (sym taken)
    (window_more c.args.values.now.items c.args.self.now c.look-value.result c.requires.window c.requires.some c.look-value.ensures.value) in
    window_near c.args.values.now.items c.admit.new.self c.requires.near more

pub returns-then-not-reached-clause-window : goal.returns-then-not-reached-clause-window
returns-then-not-reached-clause-window c =
    let read : FitsSigned w64 c.look-value.result = search rules in
    let taken = rw (to_z-of_z w64 c.look-value.result read) at c.admit.ensures in
    let more : IsWindow c.args.values.now.items c.admit.new.self = subst (λ (w : Window). IsWindow c.args.values.now.items w) (sym taken)
    (window_more c.args.values.now.items c.args.self.now c.look-value.result c.requires.window c.requires.some c.look-value.ensures.value) in
    let here : IsWindow c.look-value.new.self.items c.admit.new.self = subst (λ (xs : List ℤ). IsWindow xs c.admit.new.self) (sym c.look-value.ensures.items)
    more in
    let out : (c.args.self.now.lo +ℤ pos c.args.span) <ℤ c.look-value.result = search rules in
    let far = beyond_first c.args.span c.args.values.now.items c.args.self.now c.look-value.result c.requires.window c.look-value.ensures.value out
    (cases_lt 0 c.args.self.now.end) in
    let lt : c.admit.new.self.first + 1 < c.admit.new.self.end = rw taken far in
    let final : IsWindow c.leave.new.values.items c.leave.new.self = rw (
      c.leave.ensures.items,
      c.leave.ensures.window,
    ) (window_less c.look-value.new.self.items c.admit.new.self here lt) in
    final

pub returns-then-not-reached-clause-near : goal.returns-then-not-reached-clause-near
returns-then-not-reached-clause-near c =
    let read : FitsSigned w64 c.look-value.result = search rules in
    let taken = rw (to_z-of_z w64 c.look-value.result read) at c.admit.ensures in
    let more : IsWindow c.args.values.now.items c.admit.new.self = subst (λ (w : Window). IsWindow c.args.values.now.items w) (sym taken)
    (window_more c.args.values.now.items c.args.self.now c.look-value.result c.requires.window c.requires.some c.look-value.ensures.value) in
    let here : IsWindow c.look-value.new.self.items c.admit.new.self = subst (λ (xs : List ℤ). IsWindow xs c.admit.new.self) (sym c.look-value.ensures.items)
    more in
    let out : (c.args.self.now.lo +ℤ pos c.args.span) <ℤ c.look-value.result = search rules in
    let far = beyond_first c.args.span c.args.values.now.items c.args.self.now c.look-value.result c.requires.window c.look-value.ensures.value out
    (cases_lt 0 c.args.self.now.end) in
    let lt : c.admit.new.self.first + 1 < c.admit.new.self.end = rw taken far in
    let final : IsWindow c.leave.new.values.items c.leave.new.self = rw (
      c.leave.ensures.items,
      c.leave.ensures.window,
    ) (window_less c.look-value.new.self.items c.admit.new.self here lt) in
    let near : All IsNear c.leave.new.values.items = subst (λ (xs : List ℤ). All IsNear xs) (sym (c.leave.ensures.items ∙ c.look-value.ensures.items))
    c.requires.near in
    (rw (to_z-of_z w64 c.look-value.result read) c.look-value.ensures.near, window_near c.leave.new.values.items c.leave.new.self near final)

pub returns-else-not-reached-clause-window : goal.returns-else-not-reached-clause-window
returns-else-not-reached-clause-window c =
    let read : FitsSigned w64 c.look-value.result = search rules in
    let taken = rw (to_z-of_z w64 c.look-value.result read) at c.admit.ensures in
    let more : IsWindow c.args.values.now.items c.admit.new.self = subst (λ (w : Window). IsWindow c.args.values.now.items w) (sym taken)
    (window_more c.args.values.now.items c.args.self.now c.look-value.result c.requires.window c.requires.some c.look-value.ensures.value) in
    subst (λ (xs : List ℤ). IsWindow xs c.admit.new.self) (sym c.look-value.ensures.items) more

pub returns-else-not-reached-clause-near : goal.returns-else-not-reached-clause-near
returns-else-not-reached-clause-near c =
    let read : FitsSigned w64 c.look-value.result = search rules in
    let taken = rw (to_z-of_z w64 c.look-value.result read) at c.admit.ensures in
    let more : IsWindow c.args.values.now.items c.admit.new.self = subst (λ (w : Window). IsWindow c.args.values.now.items w) (sym taken)
    (window_more c.args.values.now.items c.args.self.now c.look-value.result c.requires.window c.requires.some c.look-value.ensures.value) in
    (rw (to_z-of_z w64 c.look-value.result read) c.look-value.ensures.near, window_near c.args.values.now.items c.admit.new.self c.requires.near more)
