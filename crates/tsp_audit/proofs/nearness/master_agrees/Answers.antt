-- The master of the round is the node that was read.
use Rattle.std.proofs.Common.{◌≡◌, arith, rules, get_or, Some}
use Rattle.tsp_audit.specs.{Agreeing.IsAtPlace, declared.round_correction.NodeState.NodeState}
use Rattle.tsp_audit.proofs.{AgreementLemmas.here_at, AgreementLemmas.no_state, NearLemmas.boss_moved, NearLemmas.boss_told}
use Rattle.tsp_audit.proofs.nearness.master_agrees.Goals as goal

pub returns-then-stands : goal.returns-then-stands
returns-then-stands c header at spare all is sums =
    let x = c.in-Some.c in
    let states = c.args.states.now in
    let ac : c.args.a.now.from_round ≡ Some x = search rules in
    let boss : NodeState = get_or states x.master no_state in
    let bat : IsAtPlace states x.master boss = here_at states x.master (omega arith) in
    let mine = rw (← c.index-stand-node.is) at (all c.args.node c.args.a.now c.index-stand-node.result is (omega (arith, is.below, c.requires.many))) in
    let theirs = rw (← c.index-stand-master.is) at (all x.master boss c.index-stand-master.result bat (omega (arith, bat.below, c.requires.many))) in
    boss_told header at spare c.args.node c.args.a.now states x boss c.master_near.result ac bat c.if-stands.ensures
    (c.master_near.ensures c.args.a.now boss x ac header at spare c.args.node mine theirs (sums c.args.node c.args.a.now is) (sums x.master boss bat))

pub returns-else-stands : goal.returns-else-stands
returns-else-stands c header at spare all is sums =
    let x = c.in-Some.c in
    let states = c.args.states.now in
    let ac : c.args.a.now.from_round ≡ Some x = search rules in
    boss_moved header at spare c.args.node c.args.a.now states x _ ac (here_at states x.master (omega arith)) c.if-stands.ensures
