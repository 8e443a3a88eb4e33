-- One entry more is changed; at the end all are.
use Rattle.tsp_measure.{proofs.Entries.mapped_more, proofs.Entries.mapped_all, specs.Slaves.idle_entry, specs.Slaves.unmeasures}
use Rattle.tsp_measure.proofs.slaves.unmeasure_each.Goals as goal

pub loop-entry-preserved : goal.loop-entry-preserved
loop-entry-preserved c = mapped_more unmeasures c.args.entries.now c.loop-entry.entries c.loop-entry.entry-index (idle_entry (record { 0 = 0 }))
    c.loop-entry-test.true c.loop-entry.invariant

pub returns : goal.returns
returns c = mapped_all unmeasures c.args.entries.now c.loop-entry.entries c.loop-entry.entry-index c.loop-entry-test.false c.loop-entry.invariant
