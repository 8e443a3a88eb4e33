use Rattle.std.proofs.Common.{refl}
use Rattle.tsp_audit.proofs.AgreementSteps.{agreement_blank}
use Rattle.tsp_audit.proofs.agreement_tracker.AgreementTracker.new.Goals as goal

pub returns-in-Ok : goal.returns-in-Ok
returns-in-Ok c = (agreement_blank c.args.count _ c.requires c.in-Ok.ensures c.new.ensures.items refl, refl)
