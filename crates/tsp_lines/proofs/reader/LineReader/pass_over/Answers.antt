use Rattle.std.proofs.Common.{arith, ap, refl, ◌∙◌, [], append-nil, Some}
use Rattle.tsp_lines.proofs.{Leaving.Counts_from, Outputs.Gives_nil, Passes.passed, Passes.passed_more}
use Rattle.tsp_lines.proofs.reader.LineReader.pass_over.Goals as goal

pub returns-in-Some : goal.returns-in-Some
returns-in-Some g c =
    let i = c.loop-next.invariant in
    let e = c.in-Some.ensures in
    let p = e.passes in
    rw c.keep.ensures (record {
      next = passed _ _ _ c.pass.new.self _ _ _ _ _ _ c.requires.long c.start_of_held-start.ensures i.0.1 i.0.3 p.1 (omega (arith, i.0.2, p.2)) p.3;
      limit = (e.limit.0 ∙ i.1, e.limit.1);
      faults = Counts_from _ _ _ _ _ i.4 (ap Some) (λ f. cc) e.faults;
      over = e.over;
      ended = e.ended;
    })

pub loop-next-preserved : goal.loop-next-preserved
loop-next-preserved g c =
    let i = c.loop-next.invariant in
    let e = c.in_default.ensures in
    let p = e.passes in (
      passed_more _ _ _ _ _ _ _ _ i.0.1 i.0.3 p.1 (omega (arith, i.0.2, p.2)) p.3.0,
      omega (arith, i.1, e.limit.0),
      p.3.2,
      e.ended,
      e.faults.still (λ f. cc) ∙ i.4,
    )

pub loop-next-init : goal.loop-next-init
loop-next-init g c = (
  ([], Gives_nil _, omega arith, rw (append-nil c.args.self.now.held) c.requires.line),
  refl,
  c.requires.within,
  c.requires.open,
  omega arith,
)
