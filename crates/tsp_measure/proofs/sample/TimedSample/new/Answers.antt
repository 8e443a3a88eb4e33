use Rattle.std.proofs.Common.{◌≡◌, ◌-ℤ◌, ap, ◌∙◌, refl, to_z, of_z}
use Rattle.std.{proofs.lemmas.Int.to_z-of_z, specs.Int.w64}
use Rattle.tsp_base.specs.Words.{half_down}
use Rattle.tsp_measure.proofs.{Samples.trip_is, Samples.ahead_is, Samples.diff_fits, Samples.half_fits, Samples.err_fits, Halves.half_up_is}
use Rattle.tsp_measure.proofs.sample.TimedSample.new.Goals as goal

half_is : (c : goal.After-half_down-half) → to_z w64 (of_z w64 c.half_down-half.result) ≡ half_down (c.args.d -ℤ c.args.a)
half_is c =
    let e : c.half_down-half.result ≡ half_down (c.args.d -ℤ c.args.a) = c.half_down-half.ensures ∙
    ap half_down (trip_is c.args.a c.args.d c.requires.a c.requires.d) in
    rw e (to_z-of_z w64 (half_down (c.args.d -ℤ c.args.a)) (half_fits c.args.a c.args.d c.requires.a c.requires.d))

pub overflow_sub-result-2 : goal.overflow_sub-result-2
overflow_sub-result-2 c = rw (
  ahead_is c.args.a c.args.s c.requires.a c.requires.s,
  half_is c,
) (diff_fits c.args.a c.args.s c.args.d c.requires.a c.requires.s c.requires.d)

pub overflow_sub-result-3 : goal.overflow_sub-result-3
overflow_sub-result-3 c = rw (trip_is c.args.a c.args.d c.requires.a c.requires.d, half_is c) (err_fits c.args.a c.args.d c.requires.a c.requires.d)

pub returns : goal.returns
returns c = rw (
  ahead_is c.args.a c.args.s c.requires.a c.requires.s,
  trip_is c.args.a c.args.d c.requires.a c.requires.d,
  half_is c,
  to_z-of_z w64 _ (diff_fits c.args.a c.args.s c.args.d c.requires.a c.requires.s c.requires.d),
  to_z-of_z w64 _ (err_fits c.args.a c.args.d c.requires.a c.requires.d),
  half_up_is (c.args.d -ℤ c.args.a),
) refl
