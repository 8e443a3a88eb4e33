use Rattle.std.proofs.Common.{rules, FitsSigned, ◌∙◌}
use Rattle.std.{proofs.lemmas.Int.to_z-of_z, specs.Int.w64}
use Rattle.tsp_measure.proofs.Halves.{div_euclid_half}
use Rattle.tsp_measure.proofs.sample.half_down.Goals as goal

pub returns : goal.returns
returns c =
    let read : FitsSigned w64 c.div_euclid.result = search rules in
    to_z-of_z w64 c.div_euclid.result read ∙ (rw (to_z-of_z w64 c.args.z c.ranges.z) at c.div_euclid.ensures) ∙ div_euclid_half c.args.z
