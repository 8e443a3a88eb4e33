-- What was read so far goes on with what the next read adds.
use Rattle.std.proofs.Common.{◌∙◌, ap, arith, sym, ◌≡◌, refl}
use Rattle.tsp_lines.specs.declared.gather.{Added.TheVariants.Fault, Ungathered.TheVariants.ReadFault}
use Rattle.tsp_lines.proofs.{Leaving.Counts_from, Outputs.Gives_nil}
use Rattle.tsp_lines.proofs.Gatherings.{Gathers_end, Gathers_past, Gives_more, more_added, ReadsWhole_fault}
use Rattle.tsp_lines.proofs.gather.gather_by.Goals as goal

pub loop-octets-init : goal.loop-octets-init
loop-octets-init g c = (
  rw c.new-octets.ensures.items (Gives_nil (g.S.Source.left c.args.source.now)),
  rw c.new-octets.ensures.items (omega arith),
  c.requires.open,
  refl,
)

pub returns-in-End-clause-comes : goal.returns-in-End-clause-comes
returns-in-End-clause-comes g c =
    let i = c.loop-octets.invariant in
    (rw c.new.ensures.0 (Gathers_end c.args.limit c.min-most.result _ _ _ _ _ _ i.0 (omega arith) c.in-End.ensures.adds), c.new.ensures.1, c.new.ensures.2)

pub returns-in-Fault : goal.returns-in-Fault
returns-in-Fault g c =
    let i = c.loop-octets.invariant in
    record {
      comes = ReadsWhole_fault c.args.limit c.min-most.result (g.S.Source.left c.args.source.now) (g.S.Source.left c.loop-octets.source)
          (g.S.Source.left c.read_more.new.source) (g.S.Source.ended c.read_more.new.source) c.loop-octets.octets.items c.read_more.new.octets.items
          c.in-Fault.fault i.0 (omega arith) c.in-Fault.ensures.adds;
      faults = Counts_from _ _ _ _ _ i.3 (λ e. c.in-Fault.is ∙ ap Fault (cc)) (λ e. let q : Fault c.in-Fault.fault ≡ Fault ReadFault = sym c.in-Fault.is ∙ e in
          cc) c.read_more.ensures.faults;
    }

pub loop-octets-preserved : goal.loop-octets-preserved
loop-octets-preserved g c =
    let i = c.loop-octets.invariant in
    let a = c.in-More.ensures.adds in
    let longer = more_added c.min-most.result _ _ _ _ _ a in (
      Gives_more c.min-most.result _ _ _ _ _ _ i.0 a,
      omega (arith, longer.0, longer.1),
      a.0,
      c.read_more.ensures.faults.still (λ e. let q = sym c.in-More.is ∙ e in cc) ∙ i.3,
    )

pub loop-octets-smaller : goal.loop-octets-smaller
loop-octets-smaller g c =
    let longer = more_added c.min-most.result _ _ _ _ _ c.in-More.ensures.adds in
    omega (arith, longer.0, longer.1)

pub returns-clause-comes : goal.returns-clause-comes
returns-clause-comes g c =
    let i = c.loop-octets.invariant in
    (rw c.new-2.ensures.0 (Gathers_past c.args.limit _ _ _ _ i.0 i.1 (omega arith) i.2), c.new-2.ensures.1, c.new-2.ensures.2)
