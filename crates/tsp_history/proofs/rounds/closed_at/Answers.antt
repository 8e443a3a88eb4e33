use Rattle.std.proofs.Common.{◌≡◌, ◌<◌, ◌∙◌, ◌-◌, arith, rules, length, take, get_or, refl}
use Rattle.tsp_base.specs.Words.{of, view}
use Rattle.tsp_promises.specs.StepFacts.{closed}
use Rattle.tsp_history.{proofs.NoteLemmas.begins_port, proofs.NoteLemmas.newest-is, proofs.RoundLemmas.line_at, specs.Histories.history_of}
use Rattle.tsp_history.proofs.rounds.closed_at.Goals as goal

pub loop-left-preserved : goal.loop-left-preserved
loop-left-preserved c =
    let below : c.loop-left.left - 1 < length c.args.lines.now = omega (arith, c.loop-left.invariant.few, c.loop-left-test.true) in
    let is : get_or c.args.lines.now (c.loop-left.left - 1) c.index-lines-left.result ≡ c.index-lines-left.result = search rules in
    record {
      few = omega arith;
      same = newest-is (λ h. closed (view c.args.port (of c.args.node h))) c.args.lines.now c.loop-left.left (c.loop-left.left - 1)
          c.index-lines-left.result (omega arith) below is c.loop-left.invariant.same ∙
          c.in-Keeps.ensures.place (history_of (take (c.loop-left.left - 1) c.args.lines.now));
    }

pub returns-in-Ends : goal.returns-in-Ends
returns-in-Ends c =
    let below : c.loop-left.left - 1 < length c.args.lines.now = omega (arith, c.loop-left.invariant.few, c.loop-left-test.true) in
    let is : get_or c.args.lines.now (c.loop-left.left - 1) c.index-lines-left.result ≡ c.index-lines-left.result = search rules in
    newest-is (λ h. closed (view c.args.port (of c.args.node h))) c.args.lines.now c.loop-left.left (c.loop-left.left - 1) c.index-lines-left.result
    (omega arith) below is c.loop-left.invariant.same ∙ c.in-Ends.ensures.place (history_of (take (c.loop-left.left - 1) c.args.lines.now))

pub returns-in-Begins : goal.returns-in-Begins
returns-in-Begins c =
    let below : c.loop-left.left - 1 < length c.args.lines.now = omega (arith, c.loop-left.invariant.few, c.loop-left-test.true) in
    let is : get_or c.args.lines.now (c.loop-left.left - 1) c.index-lines-left.result ≡ c.index-lines-left.result = search rules in
    let begins = c.in-Begins.ensures.begins refl in
    record {
      noted = c.index-lines-left.result;
      at = line_at c.args.lines.now (c.loop-left.left - 1) c.index-lines-left.result below is;
      node = begins.node;
      port = begins_port c.index-lines-left.result c.args.node c.args.port begins;
      is = newest-is (λ h. closed (view c.args.port (of c.args.node h))) c.args.lines.now c.loop-left.left (c.loop-left.left - 1) c.index-lines-left.result
          (omega arith) below is c.loop-left.invariant.same ∙ c.in-Begins.ensures.place (history_of (take (c.loop-left.left - 1) c.args.lines.now));
    }
