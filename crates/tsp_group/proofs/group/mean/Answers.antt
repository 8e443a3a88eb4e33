use Rattle.std.proofs.Common.{◌≡◌, arith, rules}
use Rattle.std.proofs.lemmas.Int.{ints}
use Rattle.tsp_group.{proofs.Means.floor_div_fits, proofs.Means.div_euclid_is, specs.Groups.floor_div}
use Rattle.tsp_group.proofs.group.mean.Goals as goal

quotient : (c : goal.After-div_euclid) → c.div_euclid.result ≡ floor_div c.args.g.now.sum c.args.g.now.count
quotient c = div_euclid_is _ _ _ _ (search rules) (search rules) c.div_euclid.ensures c.from.ensures

pub overflow_cast-result : goal.overflow_cast-result
overflow_cast-result c =
    let e = quotient c in
    let bounds = floor_div_fits c.args.g.now.sum c.args.g.now.count c.requires.some c.requires.near in
    omega (arith, ints, e, bounds)

pub returns : goal.returns
returns c =
    let e = quotient c in
    let bounds = floor_div_fits c.args.g.now.sum c.args.g.now.count c.requires.some c.requires.near in
    omega (arith, ints, e, bounds)
