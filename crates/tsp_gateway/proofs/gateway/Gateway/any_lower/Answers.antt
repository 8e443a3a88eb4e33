-- One more was asked.
use Rattle.std.proofs.Common.{◌≡◌, ◌∙◌, arith, false, sym}
use Rattle.tsp_gateway.specs.{GatewayStands.port_at, PortFacts.asked_on}
use Rattle.tsp_gateway.proofs.{AnyLemmas.lower_none, AnyLemmas.lower_some, LiftLemmas.one_more, LiftLemmas.ports_many}
use Rattle.tsp_gateway.proofs.gateway.Gateway.any_lower.Goals as goal

pub loop-r-preserved : goal.loop-r-preserved
loop-r-preserved c past h k lt = one_more (λ k. asked_on c.args.asked past (port_at k) ≡ false) c.loop-r.r (c.loop-r.invariant past h)
    (sym (c.is.ensures past h) ∙ c.if-is.false) k lt

pub returns-then-is : goal.returns-then-is
returns-then-is c past h =
    let many = ports_many c.args.self.now in
    let count = h.many in
    sym (lower_some c.args.asked c.args.q past c.loop-r.r c.loop-r-test.true (omega (arith, many, count, c.loop-r-test.true, c.requires))
    (sym (c.is.ensures past h) ∙ c.if-is.true))

pub returns : goal.returns
returns c past h = sym (lower_none c.args.asked c.args.q past (λ k lt. c.loop-r.invariant past h k (omega (arith, lt, c.loop-r-test.false))))
