use Rattle.std.proofs.Common.{◌-◌, ◌∙◌, sym, ap, arith}
use Rattle.tsp_base.{proofs.KindLemmas.at_place, proofs.KindLemmas.place_in_range, specs.Words.kind_word, specs.Words.kind_number}
use Rattle.tsp_base.proofs.kind.Kind.of_word.Goals as goal

pub returns-clause-none : goal.returns-clause-none
returns-clause-none c = λ k h. c.loop-kind.invariant (kind_number k - 1) k (let b = place_in_range k in omega arith) (h ∙ ap kind_word (sym (at_place k k)))
