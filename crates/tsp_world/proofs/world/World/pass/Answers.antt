-- Time goes on.
use Rattle.tsp_world.proofs.ReadyLemmas.{NodesReady_later}
use Rattle.tsp_world.proofs.world.World.pass.Goals as goal

pub invariant_of-self-clause-ready : goal.invariant_of-self-clause-ready
invariant_of-self-clause-ready c = NodesReady_later c.requires.order c.args.self.now.ready
