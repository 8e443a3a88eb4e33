-- The node has these ports, so it puts no more than the world has room for.
use Rattle.std.proofs.Common.{arith}
use Rattle.tsp_world.proofs.SetupLemmas.{room_ready}
use Rattle.tsp_world.proofs.step.take.Goals as goal

pub returns-in-Some-clause-few : goal.returns-in-Some-clause-few
returns-in-Some-clause-few c = λ ports h.
    let same = room_ready ports c.args.tick c.in-Some.node (h c.in-Some.node c.in-Some.is) in
    let few = c.take.ensures.room.few in
    omega (arith, same, few)
