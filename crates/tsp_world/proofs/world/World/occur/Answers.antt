-- Each kind of event is a call of its own.
use Rattle.std.proofs.Common.{subst, MatchResult}
use Rattle.tsp_rules.specs.Values.{Bytes}
use Rattle.tsp_world.specs.WorldStands.{Occurs, Declines}
use Rattle.tsp_world.proofs.world.World.occur.Goals as goal

pub returns-in-Bytes : goal.returns-in-Bytes
returns-in-Bytes c =
    let world = c.args.self.now in
    let new = c.bytes.new.self in
    let b = c.in-Bytes in
    rw b.is
    (subst (λ o. MatchResult c.bytes.result (λ _. Occurs (Bytes b.at b.node b.port b.from o) world new) (Declines (Bytes b.at b.node b.port b.from o) world
    new)) c.octets.ensures.value c.bytes.ensures)
