use Rattle.std.proofs.Common.{◌≡◌, ◌∙◌, arith, Some, string_bytes}
use Rattle.tsp_args.specs.declared.command.Command.TheVariants.{Ask}
use Rattle.tsp_args.proofs.WordLemmas.{one_word, no_words, asks}
use Rattle.tsp_args.proofs.command.other_command.Goals as goal

pub returns-in_ok-query-in-len1-up-clause-reads : goal.returns-in_ok-query-in-len1-up-clause-reads
returns-in_ok-query-in-len1-up-clause-reads c = λ d h e.
    let whole = one_word string_bytes c.args.rest.now c.addr-item.result (omega arith) c.addr-item.is in
    asks (λ x. Some (Ask c.in_ok-addr-in-len1-up.addr c.in_ok-query-in-len1-up.query) ≡ Some x) c.args.word.now _ _ d c.requires.serve c.requires.storm h
    (rw whole at e)
    (λ a q i j w t r.
    let addr : Some c.in_ok-addr-in-len1-up.addr ≡ Some a = c.in_ok-addr-in-len1-up.ensures.reads a i (c.as_bytes.ensures.value ∙ t) in
    let query : Some c.in_ok-query-in-len1-up.query ≡ Some q = c.in_ok-query-in-len1-up.ensures.reads q j w r in
    cc)

pub returns-in-empty-clause-reads : goal.returns-in-empty-clause-reads
returns-in-empty-clause-reads c = λ d h e.
    let none = no_words c.args.rest.now c.in-empty.len_below in
    c.lone_command.ensures.reads d (rw none at e)
