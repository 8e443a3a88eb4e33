use Rattle.std.proofs.Common.{sym, ◌∙◌, nat_eq}
use Rattle.std.specs.HashMap.{get}
use Rattle.tsp_io.proofs.DirectoryLemmas.{numbers_add, numbers_keep}
use Rattle.tsp_io.proofs.directory.note.Goals as goal

pub returns-in_ok-insert : goal.returns-in_ok-insert
returns-in_ok-insert c = λ peers e h.
    let key = c.key_of-key.ensures.key in
    let absent = rw key at (sym c.contains_key.ensures ∙ c.if-not-contains_key.true) in
    let updates = rw key at c.in_ok-insert.ensures.updates in
    numbers_add peers c.args.addr (get nat_eq c.args.numbers.now) (get nat_eq c.insert.new.self) c.args.number e c.key_of-key.ensures.address absent h updates.1
    updates.2

pub returns-else-not-contains_key : goal.returns-else-not-contains_key
returns-else-not-contains_key c = λ peers e h.
    let present = rw c.key_of-key.ensures.key at (sym c.contains_key.ensures ∙ c.if-not-contains_key.false) in
    numbers_keep peers c.args.addr (get nat_eq c.args.numbers.now) c.key_of-key.ensures.address present h
