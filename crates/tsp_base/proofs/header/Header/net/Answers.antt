use Rattle.std.proofs.Common.{rules, refl, arith, ◌≡◌, ◌≤◌, false, true, length}
use Rattle.tsp_base.proofs.HeaderLemmas.{IsHeader_joined_maybe, length_net}
use Rattle.tsp_base.proofs.header.Header.net.Goals as goal

pub invariant_of-self : goal.invariant_of-self
invariant_of-self c =
    rw (c.push.ensures.items, c.in-Some.ensures.value)
    (IsHeader_joined_maybe _ (record {
      drift = c.self.inside.drift;
      strict = c.self.inside.strict;
      nodes = c.self.inside.nodes.items;
      nets = c.self.inside.nets.items;
    }) c.args.nodes.now c.self.invariant (search rules) (search rules))

pub returns-in_default : goal.returns-in_default
returns-in_default c =
    let joins = c.if-not-joins.ensures.0 refl in
    let few : length c.args.nodes.now ≤ 64 = omega (arith, length_net _ _ joins.net_is, c.self.invariant.few) in
    let e : false ≡ true = c.in_default.ensures.variant.1 few in cc
