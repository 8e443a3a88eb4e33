-- The peer's entry is found and changed.
use Rattle.std.proofs.Common.{◌∙◌, ap}
use Rattle.std.proofs.lemmas.List.{get_or_read}
use Rattle.tsp_measure.specs.{Slaves.changed_by, declared.entry.Entry.Entry}
use Rattle.tsp_measure.proofs.Entries.{Changes-put, always_found, changed_by_peer}
use Rattle.tsp_measure.proofs.slaves.Slaves.change.Goals as goal

pub put-requires-clause-same : goal.put-requires-clause-same
put-requires-clause-same c d =
    let place = rw (c.deref.ensures.value, c.self.view_is) at c.in-Ok.ensures in
    ap (λ (e : Entry). e.peer) c.changed.ensures ∙ changed_by_peer c.args.change c.index-entry.result.now
    ∙ ap (λ (e : Entry). e.peer) (get_or_read c.args.self.now c.in-Ok.place c.index-entry.result.now place.0 (rw c.self.view_is at c.index-entry.ensures) d)

pub returns-in-Ok-clause-entries : goal.returns-in-Ok-clause-entries
returns-in-Ok-clause-entries c =
    let place = rw (c.deref.ensures.value, c.self.view_is) at c.in-Ok.ensures in
    Changes-put (changed_by c.args.change) c.args.self.now c.put.new.self c.args.peer c.in-Ok.place c.index-entry.result.now
    (rw c.self.view_is at c.self.invariant) place (rw c.self.view_is at c.index-entry.ensures) (changed_by_peer c.args.change c.index-entry.result.now)
    (rw c.changed.ensures at c.put.ensures.value)

pub returns-in_default-clause-entries : goal.returns-in_default-clause-entries
returns-in_default-clause-entries c = absurd (always_found c.args.self.now c.args.peer c.in_default.field-0 c.requires (rw (
  c.deref.ensures.value,
  c.self.view_is,
) at c.in_default.ensures))
