use Rattle.std.proofs.Common.{◌*◌, ◌+◌}
use Rattle.tsp_script.proofs.decimals.+decimal.Given as goal

abbrev pub decreases-append_decimal : goal.decreases-append_decimal
decreases-append_decimal l = 2 * l.number + 1

abbrev pub decreases-append_long : goal.decreases-append_long
decreases-append_long l = 2 * l.number
