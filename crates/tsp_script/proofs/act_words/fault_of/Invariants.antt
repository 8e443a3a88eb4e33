-- None of the faults so far has the word.
use Rattle.std.proofs.Common.{◌≡◌, ℕ, ◌<◌, slice_index_or}
use Rattle.tsp_base.specs.declared.datagram.DecodeFault.{DecodeFault}
use Rattle.tsp_script.{proofs.WordTables.faults, specs.Traces.fault_word}
use Rattle.tsp_script.proofs.act_words.fault_of.Given as goal

abbrev pub invariant-loop-fault : goal.invariant-loop-fault
invariant-loop-fault l = (i : ℕ) (d : DecodeFault) → i < l.fault-index → l.word ≡ fault_word (slice_index_or faults i d) → ⊥
