use Rattle.std.proofs.Common.{◌≡◌, take}
use Rattle.tsp_page.specs.Numbers.{octets_of_all}
use Rattle.tsp_page.proofs.numbers.octets_of_all.Given as goal

abbrev pub invariant-loop-number : goal.invariant-loop-number
invariant-loop-number g l = l.out.items ≡ octets_of_all (take l.number-index l.numbers)
