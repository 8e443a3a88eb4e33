use Rattle.std.proofs.Common.{◌∙◌, ap, ◌++◌, List, ℕ}
use Rattle.std.proofs.lemmas.List.{take-replicate}
use Rattle.tsp_codec.proofs.encoding.append_zeros.Goals as goal

pub returns : goal.returns
returns c = c.append.ensures ∙ ap (λ (z : List ℕ). c.args.out.now.items ++ z) (take-replicate c.args.count 256 0 c.requires.few)
