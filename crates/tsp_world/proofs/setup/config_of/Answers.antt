-- One network more.
use Rattle.std.proofs.Common.{◌≡◌, ◌∙◌, ◌+◌, ap, sym, drop, List, ℕ, [], ◌∷◌, ◌++◌, append_assoc, rules}
use Rattle.std.proofs.lemmas.List.{drop_more}
use Rattle.tsp_gateway.specs.GateConfigs.{GateConfigValue}
use Rattle.tsp_run.specs.Networks.{ports_on}
use Rattle.tsp_networks.proofs.MemberLemmas.{ports_on_one}
use Rattle.tsp_world.proofs.setup.config_of.Goals as goal

pub loop-net-preserved : goal.loop-net-preserved
loop-net-preserved c =
    let n = c.args.number in
    let i = c.loop-net.net-index in
    let net : List ℕ = c.net-item.result in
    let rest = drop (i + 1) c.args.nets.now in
    let before = c.loop-net.config.ports in
    let is : c.join.new.config ≡ record c.loop-net.config { ports = before ++ ports_on n (net ∷ []) } = c.in_ok-join.ensures in
    let more : drop i c.args.nets.now ≡ net ∷ rest = drop_more c.args.nets.now i net (search rules) ∙ ap (λ m. m ∷ rest) (sym c.net-item.is) in
    record {
      name = ap (λ (v : GateConfigValue). v.name) is ∙ c.loop-net.invariant.name;
      may = ap (λ (v : GateConfigValue). v.may) is ∙ c.loop-net.invariant.may;
      strict = ap (λ (v : GateConfigValue). v.strict) is ∙ c.loop-net.invariant.strict;
      ports = ap (λ (v : GateConfigValue). v.ports ++ ports_on n rest) is
          ∙ append_assoc before (ports_on n (net ∷ [])) (ports_on n rest)
          ∙ ap (λ l. before ++ l) (ports_on_one n net rest)
          ∙ ap (λ l. before ++ ports_on n l) (sym more)
          ∙ c.loop-net.invariant.ports;
    }
