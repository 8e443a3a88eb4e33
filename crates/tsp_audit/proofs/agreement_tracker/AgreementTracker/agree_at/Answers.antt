-- Clocks that are known to have settled agree.
use Rattle.std.proofs.Common.{refl}
use Rattle.tsp_audit.proofs.SettleLemmas.{known_agree}
use Rattle.tsp_audit.proofs.agreement_tracker.AgreementTracker.agree_at.Goals as goal

pub returns-then-is_known : goal.returns-then-is_known
returns-then-is_known c setting has soon bounded settled = known_agree c.args.header.now setting c.args.settled c.args.at c.args.self.now.nodes.items
    (c.if-is_known.ensures refl) has soon bounded settled
