-- The peer's entry is found and changed.
use Rattle.std.proofs.Common.{ap, refl}
use Rattle.std.proofs.lemmas.List.{get_or_read}
use Rattle.tsp_measure.{proofs.Entries.Changes-put, proofs.Entries.Changes_absent, specs.Slaves.leaves, specs.declared.entry.Entry.Entry}
use Rattle.tsp_measure.proofs.slaves.Slaves.leave.Goals as goal

pub put-requires-clause-same : goal.put-requires-clause-same
put-requires-clause-same c d =
    let place = rw (c.deref.ensures.value, c.self.view_is) at c.in-Ok.ensures in
    ap (λ (e : Entry). e.peer) (get_or_read c.args.self.now c.in-Ok.place c.index-entry.result.now place.0 (rw c.self.view_is at c.index-entry.ensures) d)

pub returns-in-Ok-clause-entries : goal.returns-in-Ok-clause-entries
returns-in-Ok-clause-entries c =
    let place = rw (c.deref.ensures.value, c.self.view_is) at c.in-Ok.ensures in
    Changes-put leaves c.args.self.now c.put.new.self c.args.peer c.in-Ok.place c.index-entry.result.now (rw c.self.view_is at c.self.invariant) place
    (rw c.self.view_is at c.index-entry.ensures) refl c.put.ensures.value

pub returns-in_default-clause-entries : goal.returns-in_default-clause-entries
returns-in_default-clause-entries c = Changes_absent leaves c.args.self.now c.args.peer c.in_default.field-0 (rw (
  c.deref.ensures.value,
  c.self.view_is,
) at c.in_default.ensures) refl
