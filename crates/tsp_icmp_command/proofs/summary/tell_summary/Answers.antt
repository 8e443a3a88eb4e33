use Rattle.std.proofs.Common.{rules, ◌≡◌, ◌∙◌, to_z, of_z, FitsSigned}
use Rattle.std.{proofs.lemmas.Int.to_z-of_z, specs.Int.w64}
use Rattle.tsp_group.specs.Groups.{mean_of}
use Rattle.tsp_lines.specs.Lines.{close}
use Rattle.tsp_icmp_command.specs.Bests.{group_line, corrections, summary_of}
use Rattle.tsp_icmp_command.proofs.TreatLemmas.{HandsPart_none, Hands_both, HandsPart_behind}
use Rattle.tsp_icmp_command.proofs.summary.tell_summary.Goals as goal

pub returns-in_err-put-clause-err : goal.returns-in_err-put-clause-err
returns-in_err-put-clause-err g c = HandsPart_none _ _ _ _ (summary_of c.args.group.now c.args.bests.now) c.from_residual.result c.in_err-put.ensures.err

pub returns-clause-ok : goal.returns-clause-ok
returns-clause-ok g c =
    let fits : FitsSigned w64 c.mean-mean.result = search rules in
    let mean : to_z w64 (of_z w64 c.mean-mean.result) ≡ mean_of c.args.group.now = to_z-of_z w64 c.mean-mean.result fits ∙ c.mean-mean.ensures in
    Hands_both _ _ _ _ _ _ c.tell_corrections.result c.as_slice.result.now (close (group_line c.args.group.now))
    (corrections (mean_of c.args.group.now) c.args.bests.now)
    (c.as_slice.ensures.value ∙ c.group_line.ensures.text) c.in_ok-put.ensures.ok (rw mean at c.tell_corrections.ensures.ok)

pub returns-clause-err : goal.returns-clause-err
returns-clause-err g c =
    let fits : FitsSigned w64 c.mean-mean.result = search rules in
    let mean : to_z w64 (of_z w64 c.mean-mean.result) ≡ mean_of c.args.group.now = to_z-of_z w64 c.mean-mean.result fits ∙ c.mean-mean.ensures in
    HandsPart_behind _ _ _ _ _ _ c.tell_corrections.result c.as_slice.result.now (close (group_line c.args.group.now))
    (corrections (mean_of c.args.group.now) c.args.bests.now)
    (c.as_slice.ensures.value ∙ c.group_line.ensures.text) c.in_ok-put.ensures.ok (rw mean at c.tell_corrections.ensures.err)
