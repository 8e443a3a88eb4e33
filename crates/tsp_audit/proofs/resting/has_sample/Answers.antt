use Rattle.std.proofs.Common.{◌≡◌, rules, is_some}
use Rattle.tsp_audit.proofs.{AgreementSteps.sample_told, SampleLemmas.trips_before}
use Rattle.tsp_audit.proofs.resting.has_sample.Goals as goal

pub returns-then-close-lines : goal.returns-then-close-lines
returns-then-close-lines c tell =
    let some : c.is_some.result ≡ is_some c.best_at.result = search rules in
    sample_told c.args.lines.now c.args.node c.args.port c.args.p c.in-Some.close c.best_at.result c.is_some.result c.in-Some.ensures
    (c.best_at.ensures (trips_before c.args.lines.now c.args.trips.now c.in-Some.close tell)) some
