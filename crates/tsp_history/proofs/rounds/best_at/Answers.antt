use Rattle.std.proofs.Common.{◌≡◌, ◌<◌, ◌∙◌, ◌-◌, ap, sym, subst, refl, rules, arith, length, get_or, take, ℕ, to_z, of_z, Option, None, Some}
use Rattle.std.{proofs.lemmas.List.take_all, specs.Int.w128}
use Rattle.tsp_base.specs.Words.{Sampled, of, view, best}
use Rattle.tsp_history.specs.Rounds.{Bests, better_of, sampled_at, trip_at}
use Rattle.tsp_history.{proofs.NoteLemmas.first_lines, specs.Histories.line_of, specs.Histories.history_of, specs.declared.rounds.Best.Best}
use Rattle.tsp_history.proofs.RoundLemmas.{best_here, line_at, merged, merged_more, merged_none, trip_here}
use Rattle.tsp_history.proofs.rounds.best_at.Goals as goal

pub loop-left-init : goal.loop-left-init
loop-left-init c = (
  omega arith,
  λ tell was is.
      subst (λ (o : Option Best). Bests c.args.lines.now c.args.node c.args.port (best c.args.p
      (view c.args.port (of c.args.node (history_of c.args.lines.now)))) o) (sym (merged_none was))
      (subst (λ ns. Bests c.args.lines.now c.args.node c.args.port (best c.args.p (view c.args.port (of c.args.node (history_of ns)))) was)
      (take_all (length c.args.lines.now) c.args.lines.now (omega arith)) is),
)

pub loop-left-preserved-in-Keeps : goal.loop-left-preserved-in-Keeps
loop-left-preserved-in-Keeps c =
    let ns = c.args.lines.now in
    let i = c.loop-left.left - 1 in
    let item = c.index-lines-left.result in
    let below : i < length ns = omega (arith, c.loop-left.invariant.0, c.loop-left-test.true) in
    let is : get_or ns i item ≡ item = search rules in
    let same = ap (λ h. best c.args.p (view c.args.port (of c.args.node h))) (first_lines ns c.loop-left.left i item (omega arith) below is) ∙
    c.in-Keeps.ensures.keeps refl (history_of (take i ns)) in (
      omega arith,
      (λ tell was best_is. c.loop-left.invariant.1 tell was (subst (λ (o : Option Sampled). Bests ns c.args.node c.args.port o was) (sym same) best_is)),
    )

pub loop-left-preserved : goal.loop-left-preserved
loop-left-preserved c =
    let ns = c.args.lines.now in
    let i = c.loop-left.left - 1 in
    let item = c.index-lines-left.result in
    let below : i < length ns = omega (arith, c.loop-left.invariant.0, c.loop-left-test.true) in
    let is : get_or ns i item ≡ item = search rules in
    let more = first_lines ns c.loop-left.left i item (omega arith) below is in
    let trip : to_z w128 (of_z w128 c.trip_in.result) ≡ c.trip_in.result = search rules in (
      omega arith,
      (λ tell was best_is.
          let told : to_z w128 (of_z w128 c.trip_in.result) ≡ trip_at (line_of item) (history_of (take i ns)) = trip ∙
          (c.trip_in.ensures ∙ trip_here ns c.args.trips.now i item tell below is) in
          let new : Best = sampled_at item i (to_z w128 (of_z w128 c.trip_in.result)) in
          let now = best_here ns c.args.node c.args.port c.args.p item i was (to_z w128 (of_z w128 c.trip_in.result)) (line_at ns i item below is)
          (c.in-Begins.ensures.begins refl) told best_is in
          let all = c.loop-left.invariant.1 tell (merged was (Some new)) (subst (λ h. Bests ns c.args.node c.args.port
          (best c.args.p (view c.args.port (of c.args.node h))) (merged was (Some new))) (sym more) now) in
          subst (λ (o : Option Best). Bests ns c.args.node c.args.port (best c.args.p (view c.args.port (of c.args.node (history_of ns)))) o)
          (merged_more was new c.loop-left.best ∙ ap (λ b. merged was (Some b)) (sym (c.better.ensures ∙
          ap (λ b. better_of b c.loop-left.best) c.sample_at.ensures))) all),
    )

pub returns-in-Ends : goal.returns-in-Ends
returns-in-Ends c tell =
    let ns = c.args.lines.now in
    let i = c.loop-left.left - 1 in
    let item = c.index-lines-left.result in
    let below : i < length ns = omega (arith, c.loop-left.invariant.0, c.loop-left-test.true) in
    let is : get_or ns i item ≡ item = search rules in
    c.loop-left.invariant.1 tell None (ap (λ h. best c.args.p (view c.args.port (of c.args.node h))) (first_lines ns c.loop-left.left i item (omega arith) below
    is) ∙ c.in-Ends.ensures.ends refl (history_of (take i ns)))

pub returns : goal.returns
returns c tell =
    let none : c.loop-left.left ≡ 0 = omega arith in
    c.loop-left.invariant.1 tell None (ap (λ (k : ℕ). best c.args.p (view c.args.port (of c.args.node (history_of (take k c.args.lines.now))))) none)
