use Rattle.std.proofs.Common.{◌/◌, ◌%◌, refl}
use Rattle.tsp_script.proofs.PairDigits.{pair, four, written}
use Rattle.tsp_script.proofs.decimals.append_four.Goals as goal

pub returns : goal.returns
returns c = let n = c.args.number in written c.args.out.now.items _ _ (pair (n / 100)) (pair (n % 100)) (four n) c.append_pair.ensures c.append_pair-2.ensures
    refl
