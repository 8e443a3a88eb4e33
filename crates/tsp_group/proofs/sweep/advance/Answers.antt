use Rattle.std.proofs.Common.{rules, arith, ◌≡◌, ◌∙◌, ◌<◌, ◌≤◌, ◌-◌, ◌+◌, ◌≤ℤ◌, ◌<ℤ◌, ◌+ℤ◌, ℤ, pos, length, get_or, sym, ap, subst, List, FitsSigned}
use Rattle.std.{proofs.lemmas.Int.to_z-of_z, specs.Int.w64}
use Rattle.tsp_group.specs.{Groups.better, Values.IsAscending, Windows.IsBest, Windows.window_of}
use Rattle.tsp_group.proofs.Slides.{step_tries, step_passes, group_is_window}
use Rattle.tsp_group.proofs.sweep.advance.Goals as goal

pub returns-then-reaches-clause-best : goal.returns-then-reaches-clause-best
returns-then-reaches-clause-best c =
    let read : FitsSigned w64 c.slide-value.result = search rules in
    let told = c.slide-value.ensures in
    let up : IsAscending c.slide-value.new.values.items = subst (λ (xs : List ℤ). IsAscending xs) (sym told.items) c.requires.ascending in
    let n : c.args.window.now.end < length c.slide-value.new.values.items = rw told.items c.requires.some in
    let le : c.args.window.now.first ≤ c.args.window.now.end = omega (arith, c.requires.window.some, c.requires.window.none) in
    let before : IsBest c.args.span c.slide-value.new.values.items (c.args.window.now.end - c.args.window.now.first) c.args.window.now.end c.args.best =
    subst (λ (xs : List ℤ). IsBest c.args.span xs (c.args.window.now.end - c.args.window.now.first) c.args.window.now.end c.args.best) (sym told.items)
    c.requires.best in
    let within : get_or c.slide-value.new.values.items c.args.window.now.end (pos 0) ≤ℤ (get_or c.slide-value.new.values.items c.slide-value.new.self.first
    (pos 0) +ℤ pos c.args.span) = rw (to_z-of_z w64 c.slide-value.result read, told.value, told.window.lo) at c.if-reaches.ensures in
    let tried = step_tries c.args.span c.slide-value.new.values.items c.args.window.now.first c.args.window.now.end c.slide-value.new.self.first c.args.best up
    n le before told.moves within in
    let group : c.group.result ≡ window_of c.slide-value.new.values.items c.slide-value.new.self.first (c.args.window.now.end + 1) =
    (rw (to_z-of_z w64 c.slide-value.result read) at c.group.ensures) ∙ group_is_window c.slide-value.new.values.items c.slide-value.new.self
    c.slide-value.result c.args.window.now.end told.window told.end told.value in
    let next : c.better.result ≡ better c.args.best (window_of c.slide-value.new.values.items c.slide-value.new.self.first (c.args.window.now.end + 1)) =
    c.better.ensures ∙ ap (better c.args.best) group in
    rw (told.end, next) tried

pub returns-else-reaches-clause-best : goal.returns-else-reaches-clause-best
returns-else-reaches-clause-best c =
    let read : FitsSigned w64 c.slide-value.result = search rules in
    let told = c.slide-value.ensures in
    let up : IsAscending c.slide-value.new.values.items = subst (λ (xs : List ℤ). IsAscending xs) (sym told.items) c.requires.ascending in
    let n : c.args.window.now.end < length c.slide-value.new.values.items = rw told.items c.requires.some in
    let le : c.args.window.now.first ≤ c.args.window.now.end = omega (arith, c.requires.window.some, c.requires.window.none) in
    let before : IsBest c.args.span c.slide-value.new.values.items (c.args.window.now.end - c.args.window.now.first) c.args.window.now.end c.args.best =
    subst (λ (xs : List ℤ). IsBest c.args.span xs (c.args.window.now.end - c.args.window.now.first) c.args.window.now.end c.args.best) (sym told.items)
    c.requires.best in
    let beyond : (get_or c.slide-value.new.values.items c.slide-value.new.self.first (pos 0) +ℤ pos c.args.span) <ℤ get_or c.slide-value.new.values.items
    c.args.window.now.end (pos 0) = rw (to_z-of_z w64 c.slide-value.result read, told.value, told.window.lo) at c.if-reaches.ensures in
    rw told.end (step_passes c.args.span c.slide-value.new.values.items c.args.window.now.first c.args.window.now.end c.slide-value.new.self.first c.args.best
    up n le before told.moves beyond)
