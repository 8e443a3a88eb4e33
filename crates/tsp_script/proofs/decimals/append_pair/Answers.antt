use Rattle.std.proofs.Common.{◌*◌, ◌+◌, [], ◌∷◌, slice_index_or, sym}
use Rattle.tsp_script.specs.declared.decimals.TheConstants.{PAIRS}
use Rattle.tsp_script.proofs.PairDigits.{pair, written, table_pair}
use Rattle.tsp_script.proofs.decimals.append_pair.Goals as goal

pub returns : goal.returns
returns c =
    let n = c.args.number in
    written c.args.out.now.items _ _ (slice_index_or PAIRS (n * 2) 0 ∷ []) (slice_index_or PAIRS (n * 2 + 1) 0 ∷ []) (pair n) c.push.ensures.items
    c.push-2.ensures.items (sym (table_pair n c.requires.number))
