use Rattle.std.proofs.Common.{◌∙◌, sym, ap, Some, rules, map, string_bytes}
use Rattle.std.proofs.lemmas.List.{take_all}
use Rattle.tsp_args.specs.Ports.{IsPeerWord}
use Rattle.tsp_args.proofs.WordLemmas.{are_peer_words, peer_words_injective, word_at}
use Rattle.tsp_args.proofs.ports.read.Goals as goal

pub returns-then-not-branch-clause-reads : goal.returns-then-not-branch-clause-reads
returns-then-not-branch-clause-reads c = λ ports h e.
    let no : IsPeerWord c.as_str.result.now → ⊥ = search rules in
    absurd (no (rw c.as_str.ensures.value (word_at string_bytes c.args.words.now c.loop-word.word-index c.word-item.result c.loop-word-test.true c.word-item.is
    (rw e (are_peer_words ports h.addrs)))))

pub returns-clause-reads : goal.returns-clause-reads
returns-clause-reads c = λ ports h e.
    let whole = take_all c.loop-word.word-index c.args.words.now c.loop-word-test.false in
    let read = sym c.loop-word.invariant.0 ∙ ap (λ ws. map string_bytes ws) whole ∙ e in
    ap Some (peer_words_injective c.loop-word.ports ports c.loop-word.invariant.1 h read)
