use Rattle.std.proofs.Common.{arith}
use Rattle.tsp_script.{proofs.WordTables.faults, proofs.WordTables.no_word, proofs.WordTables.first_fault, specs.Traces.fault_word}
use Rattle.tsp_script.proofs.act_words.fault_of.Goals as goal

pub returns-clause-reads : goal.returns-clause-reads
returns-clause-reads c = λ f e. absurd (no_word fault_word faults c.args.word.now _ f (first_fault f) (let all = c.loop-fault-test.false in
    omega (arith, all)) c.loop-fault.invariant e)
