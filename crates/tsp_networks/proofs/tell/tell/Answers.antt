-- At the end all lines are told.
use Rattle.std.proofs.Common.{◌≤◌, ◌∙◌, sym, arith, length}
use Rattle.tsp_networks.proofs.TellLemmas.{told_all}
use Rattle.tsp_networks.proofs.tell.tell.Goals as goal

pub returns-clause-lines : goal.returns-clause-lines
returns-clause-lines c =
    let past = c.loop-line-test.false in
    let all : length c.loop-line.lines ≤ c.loop-line.line-index = omega (arith, past) in
    sym (told_all c.args.event c.args.node c.args.tick (length c.loop-line.sent.items) c.loop-line.line-index c.loop-line.lines all) ∙
    c.loop-line.invariant.told
