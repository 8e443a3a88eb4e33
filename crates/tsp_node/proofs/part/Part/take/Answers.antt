-- Took, and then its row.
use Rattle.std.proofs.Common.{[], ◌∷◌, ap, arith, length, ◌∙◌}
use Rattle.std.proofs.lemmas.List.{length-append}
use Rattle.tsp_base.{specs.Words.Past, specs.Words.grown, specs.Words.puts, specs.Words.◌followed_by◌, proofs.PerformsLemmas.Performs_then}
use Rattle.tsp_rules.specs.{Answers.takes, Values.Took}
use Rattle.tsp_node.specs.NodeStands.{TakeStands, TookStands, port_with, traced_with}
use Rattle.tsp_node.proofs.NodeLemmas.{Performs_put, PortTook_took}
use Rattle.tsp_node.proofs.part.Part.take.Goals as goal

pub returns-clause-row : goal.returns-clause-row
unfolding takes
returns-clause-row g c =
    let from = c.args.from in
    let taken = c.args.taken.now in
    Performs_then
    (Performs_put {p = TakeStands} {q = TookStands (record { from = from; taken = taken })} (Took from taken) c.put_taken.ensures.acts
    (λ past h. record { port = PortTook_took from taken c.args.tick past (port_with c.args.self.now c.args.clock.now) h.port; trace = h.trace }))
    c.handle.ensures.row

pub returns-clause-corrects : goal.returns-clause-corrects
unfolding takes puts ◌followed_by◌
returns-clause-corrects g c past h =
    let from = c.args.from in
    let taken = c.args.taken.now in
    let x = c.args.tick in
    let mid : Past = grown x past (Took from taken ∷ []) in
    let stands : TookStands (record { from = from; taken = taken }) mid (traced_with c.args.self.now c.args.clock.now c.args.tracing.now) =
    record { port = PortTook_took from taken x past (port_with c.args.self.now c.args.clock.now) h.port; trace = h.trace } in
    c.handle.ensures.corrects mid stands _ (c.handle.ensures.row.acts mid stands)

pub put_taken-requires : goal.put_taken-requires
put_taken-requires g c = omega (arith, c.requires.room)

pub handle-requires : goal.handle-requires
handle-requires g c = record { room = omega (arith, c.put_taken.ensures.spare, c.requires.room); tick = c.requires.tick; later = c.requires.later }

pub returns-clause-room : goal.returns-clause-room
returns-clause-room g c =
    let one = ap length c.put_taken.ensures.acts ∙ length-append (g.D.Desk.acts c.args.desk.now) _ in
    let room = c.handle.ensures.room in
    record { spare = omega (arith, c.put_taken.ensures.spare, room.spare); few = omega (arith, one, room.few) }
