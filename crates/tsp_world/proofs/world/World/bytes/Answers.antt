-- What is handed over are octets.
use Rattle.std.proofs.Common.{arith, sym}
use Rattle.tsp_world.proofs.world.World.bytes.Goals as goal

pub returns : goal.returns
returns c = c.hand.ensures c.args.octets.now (λ i. omega (arith, (c.type_inv.octets i).fits)) (sym c.read-taken.ensures.value)
