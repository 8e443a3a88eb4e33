use Rattle.std.proofs.Common.{arith, sym, subst}
use Rattle.std.proofs.lemmas.Int.{ints}
use Rattle.tsp_icmp.specs.Days.{Dayside}
use Rattle.tsp_icmp.proofs.Daysides.{Dayside_difference_of, found, shift_of_low, shift_of_high}
use Rattle.tsp_icmp.proofs.exchange.difference.Goals as goal

pub returns-clause-value : goal.returns-clause-value
returns-clause-value c =
    let t = c.trip-trip.ensures.value in
    let s = c.shift.ensures in
    found _ _ c.trip-trip.result c.args.o c.args.r c.args.d t c.if-trip-ge-HALF_DAY.false (omega (
      arith,
      ints,
      s,
      shift_of_low c.args.o c.args.r,
      shift_of_high c.args.o c.args.r,
    )) (omega (arith, ints))

pub returns-clause-dayside : goal.returns-clause-dayside
returns-clause-dayside c = subst (Dayside c.args.o c.args.r c.args.d) (sym (returns-clause-value c)) (Dayside_difference_of c.args.o c.args.r c.args.d)
