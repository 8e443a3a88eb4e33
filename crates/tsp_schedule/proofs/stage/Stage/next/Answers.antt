-- A stage goes on as from the place for which it stands.
use Rattle.std.proofs.Common.{subst}
use Rattle.tsp_schedule.{proofs.StageLemmas.drifted_next, proofs.StageLemmas.titled_next, specs.Stages.StageStands}
use Rattle.tsp_schedule.proofs.stage.Stage.next.Goals as goal

pub returns-in-Running-clause-next : goal.returns-in-Running-clause-next
returns-in-Running-clause-next g c p stands = c.behind.ensures.next p (subst (λ s. StageStands g.C.EventHandler.stands p s) c.in-Running.is stands)

pub returns-in-Titled-clause-next : goal.returns-in-Titled-clause-next
returns-in-Titled-clause-next g c p stands = titled_next g.C.EventHandler.refused g.C.EventHandler.stands p c.in-Titled.version c.args.line.now c.drift.result
    (subst (λ s. StageStands g.C.EventHandler.stands p s) c.in-Titled.is stands) c.drift.ensures.next

pub returns-in-Drifted-clause-next : goal.returns-in-Drifted-clause-next
returns-in-Drifted-clause-next g c p stands = drifted_next g.C.EventHandler.refused g.C.EventHandler.stands p c.in-Drifted.header c.args.line.now
    c.strict.result (subst (λ s. StageStands g.C.EventHandler.stands p s) c.in-Drifted.is stands) c.strict.ensures.next
