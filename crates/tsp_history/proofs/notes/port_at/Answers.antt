use Rattle.std.proofs.Common.{◌≡◌, ◌<◌, ◌-◌, true, false, arith, rules, subst, sym, length, take, get_or}
use Rattle.tsp_history.{proofs.NoteLemmas.port_more, specs.Histories.history_of, specs.Notes.IsOwnLine, specs.Notes.PortKnown}
use Rattle.tsp_history.proofs.notes.port_at.Goals as goal

pub returns-then-is_own : goal.returns-then-is_own
returns-then-is_own c =
    let below : c.loop-left.left - 1 < length c.args.lines.now = omega (arith, c.loop-left.invariant.few, c.loop-left-test.true) in
    let is : get_or c.args.lines.now (c.loop-left.left - 1) c.index-lines-left.result ≡ c.index-lines-left.result = search rules in
    let own : IsOwnLine c.index-lines-left.result c.args.node c.args.port true = subst (λ b. IsOwnLine c.index-lines-left.result c.args.node c.args.port b)
    c.if-is_own.true c.is_own.ensures in
    c.loop-left.invariant.known c.index-lines-left.result.note.port
    (port_more c.args.node c.args.port c.args.lines.now c.loop-left.left (c.loop-left.left - 1) c.index-lines-left.result (omega arith) below is
    c.index-lines-left.result.note.port
    (own (history_of (take (c.loop-left.left - 1) c.args.lines.now)) c.index-lines-left.result.note.port
    (c.requires.told.at (c.loop-left.left - 1) c.index-lines-left.result below is).port))

pub loop-left-preserved : goal.loop-left-preserved
loop-left-preserved c =
    let below : c.loop-left.left - 1 < length c.args.lines.now = omega (arith, c.loop-left.invariant.few, c.loop-left-test.true) in
    let is : get_or c.args.lines.now (c.loop-left.left - 1) c.index-lines-left.result ≡ c.index-lines-left.result = search rules in
    let other : IsOwnLine c.index-lines-left.result c.args.node c.args.port false =
    subst (λ b. IsOwnLine c.index-lines-left.result c.args.node c.args.port b) c.if-is_own.false c.is_own.ensures in
    record {
      few = omega arith;
      known = λ m k. c.loop-left.invariant.known m (port_more c.args.node c.args.port c.args.lines.now c.loop-left.left (c.loop-left.left - 1)
          c.index-lines-left.result (omega arith) below is m (other (history_of (take (c.loop-left.left - 1) c.args.lines.now)) m k));
    }

pub returns : goal.returns
returns c =
    let none : c.loop-left.left ≡ 0 = omega arith in
    c.loop-left.invariant.known c.new.result (subst (λ k. PortKnown c.args.node c.args.port (history_of (take k c.args.lines.now)) c.new.result) (sym none)
    (c.new.ensures c.args.node c.args.port))
