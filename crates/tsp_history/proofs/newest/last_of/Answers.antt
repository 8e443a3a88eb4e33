use Rattle.std.proofs.Common.{◌<◌, ◌-◌, arith, rules, length}
use Rattle.std.proofs.lemmas.Bool.{ne_eqb}
use Rattle.tsp_history.proofs.NoteLemmas.{quiet_all, quiet_back, quiet_here}
use Rattle.tsp_history.proofs.newest.last_of.Goals as goal

pub loop-left-init : goal.loop-left-init
loop-left-init c = record { few = omega arith; quiet = quiet_all c.args.node c.args.lines.now _ (omega arith) }

pub loop-left-preserved : goal.loop-left-preserved
loop-left-preserved c =
    let below : c.loop-left.left - 1 < length c.args.lines.now = omega (arith, c.loop-left.invariant.few, c.loop-left-test.true) in
    record {
      few = omega arith;
      quiet = quiet_back c.args.node c.args.lines.now c.loop-left.left (c.loop-left.left - 1) c.index-lines-left.result (omega arith)
          below (search rules) (ne_eqb c.index-lines-left.result.node c.args.node c.if-line-node.false) c.loop-left.invariant.quiet;
    }

pub returns-then-line-node : goal.returns-then-line-node
returns-then-line-node c =
    let below : c.loop-left.left - 1 < length c.args.lines.now = omega (arith, c.loop-left.invariant.few, c.loop-left-test.true) in
    record {
      noted = c.index-lines-left.result;
      below = below;
      noted_is = search rules;
      node = c.if-line-node.true;
      quiet = quiet_here c.args.node c.args.lines.now c.loop-left.left (c.loop-left.left - 1) c.index-lines-left.result (omega arith) below (search rules)
          c.loop-left.invariant.quiet;
    }
