use Rattle.std.proofs.Common.{◌≡◌, ℕ, ◌<◌, slice_index_or}
use Rattle.tsp_base.specs.{Words.kind_word, Words.kinds, declared.kind.Kind.Kind}
use Rattle.tsp_base.proofs.kind.Kind.of_word.Given as goal

abbrev pub invariant-loop-kind : goal.invariant-loop-kind
invariant-loop-kind l = (i : ℕ) (d : Kind) → i < l.kind-index → l.word ≡ kind_word (slice_index_or kinds i d) → ⊥
