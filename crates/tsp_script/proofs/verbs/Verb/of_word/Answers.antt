use Rattle.std.proofs.Common.{◌∙◌, sym, ap, arith, Some}
use Rattle.tsp_script.proofs.WordTables.{no_word, one_word, first_verb}
use Rattle.tsp_script.specs.Verbs.{verbs, verb_word}
use Rattle.tsp_script.proofs.verbs.Verb.of_word.Goals as goal

pub returns-then-is_same-clause-reads : goal.returns-then-is_same-clause-reads
returns-then-is_same-clause-reads c = λ v e. ap (λ u. Some u) (one_word verb_word verbs _ v (first_verb _) (first_verb v) (sym c.word.ensures ∙
    c.if-is_same.ensures ∙ e))

pub returns-clause-reads : goal.returns-clause-reads
returns-clause-reads c = λ v e. absurd (no_word verb_word verbs c.args.word.now _ v (first_verb v) (let all = c.loop-verb-test.false in
    omega (arith, all)) c.loop-verb.invariant e)
