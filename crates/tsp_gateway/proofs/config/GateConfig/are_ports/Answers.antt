-- One port after the other.
use Rattle.std.proofs.Common.{◌≡◌, ◌<◌, ◌∙◌, ℕ, List, ap, arith, get_or, length, refl, rules, subst, sym, vec_len}
use Rattle.std.proofs.lemmas.{Bool.false≢true, Option.slice_get-get_or}
use Rattle.tsp_rules.specs.NodeRows.{PortSetup, no_port}
use Rattle.tsp_node.specs.Configs.{IsPortSetup}
use Rattle.tsp_gateway.specs.GateConfigs.{GateConfigValue}
use Rattle.tsp_gateway.proofs.{BootLemmas.each_port, BootLemmas.port_in_place, LiftLemmas.one_more}
use Rattle.tsp_gateway.proofs.config.GateConfig.are_ports.Goals as goal

-- inside a list what is read in the place of none doesn't matter
same-get : (xs : List PortSetup) (q : ℕ) (d e : PortSetup) → q < length xs → get_or xs q d ≡ get_or xs q e
same-get xs q d e lt = let one = slice_get-get_or xs q d lt in let other = slice_get-get_or xs q e lt in cc

pub loop-q-preserved : goal.loop-q-preserved
loop-q-preserved c k lt =
    let ports : c.args.self.now.ports ≡ c.self.inside.ports.items = sym (ap (λ (v : GateConfigValue). v.ports) c.self.view_is) in
    let len : vec_len c.self.inside.ports ≡ length c.self.inside.ports.items = search rules in
    let end = c.len-q-end.ensures in
    let inside : c.loop-q.q < length c.self.inside.ports.items = omega (arith, len, end, c.loop-q-test.true) in
    let is : c.index.result.now ≡ get_or c.args.self.now.ports c.loop-q.q no_port = c.index.ensures ∙
    same-get c.self.inside.ports.items c.loop-q.q c.index.result.now no_port inside ∙
    ap (λ (ps : List PortSetup). get_or ps c.loop-q.q no_port) (sym ports) in
    one_more (λ j. IsPortSetup (get_or c.args.self.now.ports j no_port)) c.loop-q.q c.loop-q.invariant
    (subst IsPortSetup is (c.is_port.ensures.0 c.if-not-is_port.false)) k lt

pub returns-then-not-is_port-clause-value : goal.returns-then-not-is_port-clause-value
returns-then-not-is_port-clause-value c =
    let ports : c.args.self.now.ports ≡ c.self.inside.ports.items = sym (ap (λ (v : GateConfigValue). v.ports) c.self.view_is) in
    let len : vec_len c.self.inside.ports ≡ length c.self.inside.ports.items = search rules in
    let end = c.len-q-end.ensures in
    let inside : c.loop-q.q < length c.self.inside.ports.items = omega (arith, len, end, c.loop-q-test.true) in
    let is : c.index.result.now ≡ get_or c.args.self.now.ports c.loop-q.q no_port = c.index.ensures ∙
    same-get c.self.inside.ports.items c.loop-q.q c.index.result.now no_port inside ∙
    ap (λ (ps : List PortSetup). get_or ps c.loop-q.q no_port) (sym ports) in (
      λ e. absurd (false≢true e),
      λ all. sym c.if-not-is_port.true ∙ c.is_port.ensures.1
          (subst IsPortSetup (sym is) (port_in_place c.args.self.now.ports c.loop-q.q all (subst (λ (ps : List PortSetup). c.loop-q.q < length ps) (sym ports)
          inside))),
    )

pub returns-clause-value : goal.returns-clause-value
returns-clause-value c =
    let ports : c.args.self.now.ports ≡ c.self.inside.ports.items = sym (ap (λ (v : GateConfigValue). v.ports) c.self.view_is) in
    let len : vec_len c.self.inside.ports ≡ length c.self.inside.ports.items = search rules in
    let end = c.len-q-end.ensures in
    let count = ap (λ (ps : List PortSetup). length ps) ports in
    (λ e. each_port c.args.self.now.ports (λ q lt. c.loop-q.invariant q (omega (arith, lt, len, end, count, c.loop-q-test.false))), λ all. refl)
