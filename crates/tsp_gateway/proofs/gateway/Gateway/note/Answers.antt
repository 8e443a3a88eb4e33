-- What was taken leaves all ports as they are.
use Rattle.std.proofs.Common.{ap, arith, length, refl, ◌∙◌}
use Rattle.std.proofs.lemmas.List.{length-append}
use Rattle.tsp_base.specs.Words.{puts}
use Rattle.tsp_rules.{proofs.Emits.Emits_puts, specs.Values.Took}
use Rattle.tsp_node.specs.NodeStands.{TakeStands, port_with}
use Rattle.tsp_node.proofs.NodeLemmas.{PortTook_took, Performs_put}
use Rattle.tsp_gateway.proofs.LiftLemmas.{All_idle}
use Rattle.tsp_gateway.proofs.gateway.Gateway.note.Goals as goal

pub returns-clause-row : goal.returns-clause-row
unfolding puts
returns-clause-row g c =
    let from = c.args.from in
    let taken = c.args.taken.now in
    All_idle c.requires.port (Emits_puts (Took from taken) refl) (λ x past. refl)
    (λ part there. Performs_put {p = TakeStands} {q = TakeStands} (Took from taken) (rw (c.port_at.ensures, c.copy.ensures) at c.put.ensures.acts)
    (λ past h. record { port = (PortTook_took from taken c.args.tick past (port_with part c.args.self.now.clock) h.port).stands; trace = h.trace }))

pub put-requires : goal.put-requires
put-requires g c = omega (arith, c.requires.room)

pub returns-clause-room : goal.returns-clause-room
returns-clause-room g c =
    let one = ap length c.put.ensures.acts ∙ length-append (g.D.Desk.acts c.args.desk.now) _ in
    record { spare = omega (arith, c.put.ensures.spare); few = omega (arith, one) }
