-- Each line is put behind those before it.
use Rattle.std.proofs.Common.{◌≡◌, ◌∙◌, ◌∷◌, [], List, ap, arith, length, refl, sym}
use Rattle.std.specs.Vec.Iter.{into_iter_items}
use Rattle.tsp_history.specs.Histories.{history_of, noted_after}
use Rattle.tsp_history.proofs.history.History.append.Goals as goal

-- a list of no length is empty
none_left : {X : Type 0} (xs : List X) → length xs ≡ 0 → xs ≡ []
none_left [] e = refl
none_left (x ∷ xs) e = absurd (omega arith)

pub loop-line-preserved : goal.loop-line-preserved
loop-line-preserved c =
    let at = c.loop-line in
    let steps : into_iter_items at.line-iterator ≡ c.in-Some.line ∷ into_iter_items c.next.new.self = c.in-Some.ensures.steps.0 in
    let gone = c.in-Some.ensures.steps.1 in
    let short = ap length steps in
    record {
      history = ap (λ h. noted_after h (into_iter_items c.next.new.self)) c.push.ensures.history ∙
          sym (ap (λ ns. noted_after (history_of at.self.lines) ns) steps) ∙ at.invariant.history;
      many = omega arith;
      room = omega arith;
      used = omega arith;
      count = omega arith;
    }
