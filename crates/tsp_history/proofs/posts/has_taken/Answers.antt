use Rattle.std.proofs.Common.{◌<◌, ◌∙◌, ◌-◌, sym, arith, rules, length, take, is_some}
use Rattle.tsp_base.specs.Words.{dids, of, heard}
use Rattle.tsp_history.{proofs.NoteLemmas.newest-is, specs.Histories.history_of}
use Rattle.tsp_history.proofs.posts.has_taken.Goals as goal

pub returns-in-Some : goal.returns-in-Some
returns-in-Some c =
    let below : c.loop-left.left - 1 < length c.args.lines.now = omega (arith, c.loop-left.invariant.few, c.loop-left-test.true) in
    sym (newest-is (λ h. is_some (heard (dids (of c.args.node h)))) c.args.lines.now c.loop-left.left (c.loop-left.left - 1) c.index-lines-left.result
    (omega arith) below (search rules) c.loop-left.invariant.same ∙ c.in-Some.ensures (history_of (take (c.loop-left.left - 1) c.args.lines.now)))

pub loop-left-preserved : goal.loop-left-preserved
loop-left-preserved c =
    let below : c.loop-left.left - 1 < length c.args.lines.now = omega (arith, c.loop-left.invariant.few, c.loop-left-test.true) in
    record {
      few = omega arith;
      same = newest-is (λ h. is_some (heard (dids (of c.args.node h)))) c.args.lines.now c.loop-left.left (c.loop-left.left - 1) c.index-lines-left.result
          (omega arith) below (search rules) c.loop-left.invariant.same ∙ c.in_default.ensures (history_of (take (c.loop-left.left - 1) c.args.lines.now));
    }
