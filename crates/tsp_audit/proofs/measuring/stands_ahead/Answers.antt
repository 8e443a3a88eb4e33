use Rattle.std.proofs.Common.{◌≡◌, ◌-ℤ◌, rules, to_z, of_z}
use Rattle.std.specs.Int.{w128}
use Rattle.tsp_audit.proofs.measuring.stands_ahead.Goals as goal

pub returns : goal.returns
returns c =
    let diff : to_z w128 (of_z w128 c.from.result) ≡ c.args.diff = search rules in
    let gap : to_z w128 (of_z w128 c.gap.result) ≡ c.args.ahead -ℤ c.args.own = search rules in
    let err : to_z w128 (of_z w128 c.from-2.result) ≡ c.args.err = search rules in
    rw (diff, gap, err) at c.is_near.ensures
