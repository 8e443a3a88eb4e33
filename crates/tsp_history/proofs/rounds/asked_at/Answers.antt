use Rattle.std.proofs.Common.{◌≡◌, ◌<◌, ◌∙◌, ◌-◌, ◌∷◌, arith, rules, length, take, get_or, refl, sym, subst, to_z, of_z}
use Rattle.std.specs.Int.{w128}
use Rattle.tsp_base.specs.Words.{of, view, exchange}
use Rattle.tsp_history.specs.{Histories.history_of, Histories.line_of, Posts.IsPost, Rounds.AskedAt}
use Rattle.tsp_history.proofs.{NoteLemmas.moved_small, NoteLemmas.newest-is, RoundLemmas.asked_here}
use Rattle.tsp_history.proofs.rounds.asked_at.Goals as goal

pub loop-left-preserved : goal.loop-left-preserved
loop-left-preserved c =
    let below : c.loop-left.left - 1 < length c.args.lines.now = omega (arith, c.loop-left.invariant.few, c.loop-left-test.true) in
    let is : get_or c.args.lines.now (c.loop-left.left - 1) c.index-lines-left.result ≡ c.index-lines-left.result = search rules in
    record {
      few = omega arith;
      same = newest-is (λ h. exchange c.args.p c.args.counter (view c.args.port (of c.args.node h))) c.args.lines.now c.loop-left.left
          (c.loop-left.left - 1) c.index-lines-left.result (omega arith) below is c.loop-left.invariant.same ∙
          c.in-Keeps.ensures.place (history_of (take (c.loop-left.left - 1) c.args.lines.now));
    }

pub returns-in-Ends-clause-asked : goal.returns-in-Ends-clause-asked
returns-in-Ends-clause-asked c =
    let below : c.loop-left.left - 1 < length c.args.lines.now = omega (arith, c.loop-left.invariant.few, c.loop-left-test.true) in
    let is : get_or c.args.lines.now (c.loop-left.left - 1) c.index-lines-left.result ≡ c.index-lines-left.result = search rules in
    newest-is (λ h. exchange c.args.p c.args.counter (view c.args.port (of c.args.node h))) c.args.lines.now c.loop-left.left (c.loop-left.left - 1)
    c.index-lines-left.result (omega arith) below is c.loop-left.invariant.same ∙
    c.in-Ends.ensures.place (history_of (take (c.loop-left.left - 1) c.args.lines.now))

pub target_of-requires : goal.target_of-requires
target_of-requires c =
    let below : c.loop-left.left - 1 < length c.args.lines.now = omega (arith, c.loop-left.invariant.few, c.loop-left-test.true) in
    let is : get_or c.args.lines.now (c.loop-left.left - 1) c.index-lines-left.result ≡ c.index-lines-left.result = search rules in
    moved_small c.args.lines.now (c.loop-left.left - 1) c.index-lines-left.result below is c.requires.few c.requires.told

pub returns-in-Begins-clause-asked : goal.returns-in-Begins-clause-asked
returns-in-Begins-clause-asked c =
    let below : c.loop-left.left - 1 < length c.args.lines.now = omega (arith, c.loop-left.invariant.few, c.loop-left-test.true) in
    let is : get_or c.args.lines.now (c.loop-left.left - 1) c.index-lines-left.result ≡ c.index-lines-left.result = search rules in
    let begins = c.in-Begins.ensures.begins refl in
    let post : IsPost c.index-lines-left.result = c.in-Begins.ensures.posts refl in
    let note = c.requires.told.at (c.loop-left.left - 1) c.index-lines-left.result below is in
    let place = newest-is (λ h. exchange c.args.p c.args.counter (view c.args.port (of c.args.node h))) c.args.lines.now c.loop-left.left (c.loop-left.left - 1)
    c.index-lines-left.result (omega arith) below is c.loop-left.invariant.same ∙
    c.in-Begins.ensures.place (history_of (take (c.loop-left.left - 1) c.args.lines.now)) in
    let same : to_z w128 (of_z w128 c.target_of.result) ≡ c.target_of.result = search rules in
    subst (λ t. AskedAt (exchange c.args.p c.args.counter (view c.args.port (of c.args.node (history_of c.args.lines.now)))) t) (sym same)
    (asked_here c.args.node c.args.port (exchange c.args.p c.args.counter (view c.args.port (of c.args.node (history_of c.args.lines.now))))
    c.index-lines-left.result (history_of (take (c.loop-left.left - 1) c.args.lines.now)) c.target_of.result begins.node post place
    (c.target_of.ensures.target (line_of c.index-lines-left.result ∷ (history_of (take (c.loop-left.left - 1) c.args.lines.now))) note.node.clock))
