-- One more was asked.
use Rattle.std.proofs.Common.{◌≡◌, ◌≢◌, ◌∙◌, arith, false, length, rules, sym, vec_len}
use Rattle.tsp_gateway.specs.{GatewayStands.port_at, PortFacts.asked_on}
use Rattle.tsp_gateway.proofs.{AnyLemmas.other_none, AnyLemmas.other_some, LiftLemmas.one_more}
use Rattle.tsp_gateway.proofs.gateway.Gateway.any_other.Goals as goal
use Rattle.tsp_gateway.proofs.gateway.Gateway.any_other.Goals.{else-r-q-via-then-r-q+else-is, else-r-q-via-else-r-q}

pub loop-r-preserved : goal.loop-r-preserved
loop-r-preserved c past h k lt n =
    one_more (λ k. k ≢ c.args.q → asked_on c.args.asked past (port_at k) ≡ false) c.loop-r.r (λ k lt n. c.loop-r.invariant past h k lt n)
    (λ n. elim c.else-r-q.branch [
      | else-r-q-via-then-r-q+else-is w ↦ sym (w.is.ensures past h) ∙ w.if-is.false
      | else-r-q-via-else-r-q w ↦ absurd (n w.if-r-q.false)
    ]) k lt n

pub returns-then-is : goal.returns-then-is
returns-then-is c past h =
    let len : vec_len c.args.self.now.ports ≡ length c.args.self.now.ports.items = search rules in
    let count = h.many in
    let end = c.len-r-end.ensures in
    sym (other_some c.args.asked c.args.q past c.loop-r.r c.if-r-q.true (omega (arith, len, count, end, c.loop-r-test.true)) (sym (c.is.ensures past h) ∙
    c.if-is.true))

pub returns : goal.returns
returns c past h =
    let len : vec_len c.args.self.now.ports ≡ length c.args.self.now.ports.items = search rules in
    let count = h.many in
    let end = c.len-r-end.ensures in
    sym (other_none c.args.asked c.args.q past (λ k lt n. c.loop-r.invariant past h k (omega (arith, lt, len, count, end, c.loop-r-test.false)) n))
