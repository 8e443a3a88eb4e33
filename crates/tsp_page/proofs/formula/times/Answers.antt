use Rattle.std.proofs.Common.{arith, ◌*ℤ◌, FitsSigned, w64}
use Rattle.std.proofs.lemmas.Int.{to_z-of_z, fits_signed_mul}
use Rattle.tsp_page.proofs.GainLemmas.{abs_times_small}
use Rattle.tsp_page.proofs.formula.times.Goals as goal

pub returns-clause-value : goal.returns-clause-value
returns-clause-value c =
    let a = to_z-of_z w64 c.args.count c.ranges.count in
    let b = to_z-of_z w64 c.args.rate c.ranges.rate in
    let f : FitsSigned w64 (c.args.count *ℤ c.args.rate) = fits_signed_mul w64 c.args.count c.args.rate 1000000000 1000000 c.requires.count
    c.requires.rate (omega arith) in
    rw (a, b) (to_z-of_z w64 (c.args.count *ℤ c.args.rate) f)

pub returns-clause-small : goal.returns-clause-small
returns-clause-small c =
    let e = returns-clause-value c in
    rw e (abs_times_small c.args.count c.args.rate c.requires.count c.requires.rate)
