use Rattle.std.proofs.Common.{sym}
use Rattle.tsp_io.proofs.directory.Directory.place_of.Goals as goal

pub returns-in-Some : goal.returns-in-Some
returns-in-Some c = rw (← c.self.view_is) (c.self.invariant.some c.args.addr c.in-Some.number.now c.key_of.ensures.address
    (rw (sym c.key_of.ensures.key) (sym c.in-Some.ensures.value)))
