use Rattle.std.proofs.Common.{rules, ◌≡◌, ◌∷◌, decimal, arith}
use Rattle.tsp_script.proofs.NodeNames.{node_name_fits}
use Rattle.tsp_script.proofs.storm.node_name.Goals as goal

pub unreachable-requires : goal.unreachable-requires
unreachable-requires c =
    let octets : c.as_slice.result.now ≡ 110 ∷ decimal c.args.number = grind (arith, rules) in
    node_name_fits c.args.number c.as_slice.result.now c.in-Err.field-0 octets (omega (arith, c.requires)) c.in-Err.ensures
