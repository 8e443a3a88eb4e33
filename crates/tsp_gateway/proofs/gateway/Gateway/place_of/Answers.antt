-- The place is one of the node's ports.
use Rattle.std.proofs.Common.{ap, arith}
use Rattle.tsp_rules.specs.Values.{Port}
use Rattle.tsp_gateway.proofs.AnyLemmas.{places}
use Rattle.tsp_gateway.proofs.gateway.Gateway.place_of.Goals as goal

pub index-requires : goal.index-requires
index-requires c = let end = c.len-q-end.ensures in omega (arith, end, c.loop-q-test.true)

pub port_at-requires : goal.port_at-requires
port_at-requires c = let end = c.len-q-end.ensures in let few = c.args.self.now.few in omega (arith, end, few, c.loop-q-test.true)

pub returns-then-has-clause-inside : goal.returns-then-has-clause-inside
returns-then-has-clause-inside c =
    let at = ap (λ (p : Port). p.0) c.port_at.ensures in
    omega (arith, at, places c.args.self.now, c.len-q-end.ensures, c.loop-q-test.true)

pub returns-clause-inside : goal.returns-clause-inside
returns-clause-inside c = let len = places c.args.self.now in let some = c.args.self.now.some in omega (arith, len, some)
