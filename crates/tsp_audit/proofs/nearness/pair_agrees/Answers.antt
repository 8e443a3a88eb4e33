use Rattle.std.proofs.Common.{◌≡◌, rules, Some}
use Rattle.tsp_audit.proofs.NearLemmas.{pair_told}
use Rattle.tsp_audit.proofs.nearness.pair_agrees.Goals as goal

pub returns-then-c-d-2 : goal.returns-then-c-d-2
returns-then-c-d-2 c header at spare first second own other fsum ssum =
    let x = c.in-Some-Some.c in
    let y = c.in-Some-Some.d in
    let ac : c.args.a.now.from_round ≡ Some x = search rules in
    let bd : c.args.b.now.from_round ≡ Some y = search rules in
    let masters : x.master ≡ y.master = search rules in
    let closes : x.close ≡ y.close = search rules in
    pair_told header at spare first second c.args.a.now c.args.b.now x y c.pair_near.result ac bd masters closes
    (c.pair_near.ensures c.args.a.now c.args.b.now x y ac bd header at spare first second own other fsum ssum)
