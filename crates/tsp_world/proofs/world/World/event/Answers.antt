-- What nothing refuses keeps the promises.
use Rattle.std.specs.Prelude.{◌∷◌}
use Rattle.tsp_run.proofs.{RunPremises.runs_keep_premises, RunPromises.runs_keep_promises_holds}
use Rattle.tsp_world.proofs.{Occurrences.comes_so, WorldLemmas.accepted}
use Rattle.tsp_world.proofs.world.World.event.Goals as goal

pub returns-clause-promises : goal.returns-clause-promises
returns-clause-promises c = λ header events setting w set.
    comes_so c.args.e.now c.args.self.now c.occur.new.self c.occur.result _ c.occur.ensures header events w
    (λ now. runs_keep_promises_holds header setting (c.args.e.now ∷ events) set (accepted header (c.args.e.now ∷ events) c.occur.new.self now))

pub returns-clause-premises : goal.returns-clause-premises
returns-clause-premises c = λ header events w.
    comes_so c.args.e.now c.args.self.now c.occur.new.self c.occur.result _ c.occur.ensures header events w
    (λ now. runs_keep_premises header (c.args.e.now ∷ events) (accepted header (c.args.e.now ∷ events) c.occur.new.self now))
