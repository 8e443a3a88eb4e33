-- Each port stands for the past after the boot.
use Rattle.std.proofs.Common.{◌≡◌, arith, length, vec_len, of_z, refl, rules, to_z, to_z-of_z, w64}
use Rattle.tsp_gateway.proofs.BootLemmas.{booted, booted_peers}
use Rattle.tsp_gateway.proofs.gateway.Gateway.new.Goals as goal

pub invariant_of-result : goal.invariant_of-result
invariant_of-result c =
    let ports = c.in-Ok-parts_of.ports in
    let len : vec_len ports ≡ length ports.items = search rules in
    let many = c.in-Ok-parts_of.ensures.fresh.many in
    record {
      some = omega (arith, len, many, c.requires.ports);
      few = omega (arith, len, many, c.are_ports.ensures.few);
      memory = c.in-Ok-parts_of.ensures.memory;
    }

pub returns-clause-stands : goal.returns-clause-stands
returns-clause-stands c past u =
    let back : to_z w64 (of_z w64 c.args.wall) ≡ c.args.wall = to_z-of_z c.ranges.wall in
    booted c.args.config.now c.args.word c.args.tick c.args.wall past _ c.in-Ok-parts_of.ensures.fresh refl
    (λ p cause. c.in-Ok.ensures.stands p (rw back cause)) u

pub returns-clause-ok : goal.returns-clause-ok
returns-clause-ok c = (
  search rules,
  search rules,
  booted_peers c.args.config.now c.args.word c.args.tick c.in-Ok-parts_of.ports.items
      c.in-Ok-parts_of.ensures.fresh,
  search rules,
)
