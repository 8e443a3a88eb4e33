use Rattle.std.proofs.Common.{◌≡◌, fold, length}
use Rattle.tsp_icmp.specs.Checksums.{ones_sum, words}
use Rattle.tsp_icmp.proofs.checksum.checksum.Given as goal

-- what was summed and the words that are left come to the sum of all
abbrev pub invariant-loop-left : goal.invariant-loop-left
invariant-loop-left l = fold ones_sum l.sum (words l.left) ≡ fold ones_sum 0 (words l.octets)

abbrev pub decreases-loop-left : goal.decreases-loop-left
decreases-loop-left l = length l.left
