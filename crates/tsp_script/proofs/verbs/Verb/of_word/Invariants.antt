-- None of the words so far is the one.
use Rattle.std.proofs.Common.{◌≡◌, ℕ, ◌<◌, slice_index_or}
use Rattle.tsp_script.specs.{Verbs.verbs, Verbs.verb_word, declared.verbs.Verb.Verb}
use Rattle.tsp_script.proofs.verbs.Verb.of_word.Given as goal

abbrev pub invariant-loop-verb : goal.invariant-loop-verb
invariant-loop-verb l = (i : ℕ) (d : Verb) → i < l.verb-index → l.word ≡ verb_word (slice_index_or verbs i d) → ⊥
