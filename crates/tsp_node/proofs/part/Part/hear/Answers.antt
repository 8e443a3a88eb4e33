-- Who handles it. Only what is for the roles can be left.
use Rattle.std.proofs.Common.{◌≡◌, ◌∙◌, [], ◌∷◌, ap, refl, sym, arith}
use Rattle.tsp_base.specs.Words.{nothing}
use Rattle.tsp_rules.proofs.{Emits.Acking, Emits.Emits_either, Emits.Emits_more, Emits.Emits_nothing, BuiltShared.client_sorts}
use Rattle.tsp_rules.{proofs.BuiltAnswers.date_sorts, specs.Answers.is_left}
use Rattle.tsp_slave.proofs.TellLemmas.{tells_nothing, tells_still}
use Rattle.tsp_node.proofs.HearLemmas.{audience_node, audience_roles, audience_sends, handles_ack, kept_unless, Performs_never_left}
use Rattle.tsp_node.specs.declared.audience.Audience.TheVariants.{OfClients, OfDates, OfNode, OfRoles, OfSends}
use Rattle.tsp_node.{proofs.TakeEmits.emits_clients, proofs.TakeEmits.emits_dates, proofs.TakeEmits.emits_says, specs.Audiences.audience_of}
use Rattle.tsp_node.{proofs.NodeLemmas.took_beside, proofs.NodeLemmas.took_pass, specs.NodeStands.traced_with, proofs.StillTakes.emits_ack}
use Rattle.tsp_node.proofs.part.Part.hear.Goals as goal

pub returns-in-OfClients-clause-row : goal.returns-in-OfClients-clause-row
returns-in-OfClients-clause-row g c =
    let m = c.args.m.now in
    let audience : audience_of m.kind ≡ OfClients = ap audience_of (sym c.kind.ensures) ∙ (sym c.audience_of.ensures ∙ c.in-OfClients.is) in
    Performs_never_left {after = traced_with c.answer.new.self c.args.clock.now c.answer.new.tracing} c.args.terms.steer m.kind
    (kept_unless m.kind OfClients audience (λ e. let bad : ⊥ = cc in bad)) (c.answer.ensures.row c.args.terms.charge c.args.clock.now)

pub returns-in-OfDates-clause-row : goal.returns-in-OfDates-clause-row
returns-in-OfDates-clause-row g c =
    let m = c.args.m.now in
    let audience : audience_of m.kind ≡ OfDates = ap audience_of (sym c.kind.ensures) ∙ (sym c.audience_of.ensures ∙ c.in-OfDates.is) in
    Performs_never_left {after = traced_with c.hear_date.new.self c.hear_date.new.clock c.args.tracing.now} c.args.terms.steer m.kind
    (kept_unless m.kind OfDates audience (λ e. let bad : ⊥ = cc in bad)) (took_beside c.args.tracing.now
    (Emits_more date_sorts refl (emits_dates c.args.terms.charge c.args.from m m.kind audience)) c.hear_date.ensures.row)

pub returns-in-OfNode-clause-row : goal.returns-in-OfNode-clause-row
returns-in-OfNode-clause-row g c =
    let m = c.args.m.now in
    let audience : audience_of m.kind ≡ OfNode = ap audience_of (sym c.kind.ensures) ∙ (sym c.audience_of.ensures ∙ c.in-OfNode.is) in
    Performs_never_left {after = traced_with c.args.self.now c.args.clock.now c.args.tracing.now} c.args.terms.steer m.kind
    (kept_unless m.kind OfNode audience (λ e. let bad : ⊥ = cc in bad)) (rw (audience_node c.args.terms.charge c.args.from m m.kind audience) took_pass)

pub returns-in-OfRoles-clause-row : goal.returns-in-OfRoles-clause-row
returns-in-OfRoles-clause-row g c =
    let m = c.args.m.now in
    let audience : audience_of m.kind ≡ OfRoles = ap audience_of (sym c.kind.ensures) ∙ (sym c.audience_of.ensures ∙ c.in-OfRoles.is) in
    rw (audience_roles c.args.terms.charge c.args.from m m.kind audience) (took_beside c.args.tracing.now (Emits_either (is_left c.args.terms.steer m.kind)
    nothing _ Emits_nothing (emits_says c.args.from m)) c.hear_peer.ensures.row)

pub returns-in-OfSends-clause-row : goal.returns-in-OfSends-clause-row
returns-in-OfSends-clause-row g c =
    let m = c.args.m.now in
    let audience : audience_of m.kind ≡ OfSends = ap audience_of (sym c.kind.ensures) ∙ (sym c.audience_of.ensures ∙ c.in-OfSends.is) in
    Performs_never_left {after = traced_with c.hear_ack.new.self c.args.clock.now c.args.tracing.now} c.args.terms.steer m.kind
    (kept_unless m.kind OfSends audience (λ e. let bad : ⊥ = cc in bad)) (rw (handles_ack c.args.terms.charge c.args.from m
    (audience_sends m.kind audience)) (took_beside c.args.tracing.now (emits_says c.args.from m)
    (c.hear_ack.ensures.row _ c.args.terms.at.tick c.args.clock.now)))

pub returns-in-OfClients-clause-corrects : goal.returns-in-OfClients-clause-corrects
returns-in-OfClients-clause-corrects g c past h =
    let m = c.args.m.now in
    let audience : audience_of m.kind ≡ OfClients = ap audience_of (sym c.kind.ensures) ∙ (sym c.audience_of.ensures ∙ c.in-OfClients.is) in
    tells_still (Emits_more client_sorts refl (emits_clients c.args.terms.charge c.args.from m m.kind audience))
    (c.answer.ensures.row c.args.terms.charge c.args.clock.now) past h

pub returns-in-OfDates-clause-corrects : goal.returns-in-OfDates-clause-corrects
returns-in-OfDates-clause-corrects g c past h = c.hear_date.ensures.corrects past h.port

pub returns-in-OfNode-clause-corrects : goal.returns-in-OfNode-clause-corrects
returns-in-OfNode-clause-corrects g c past h = tells_nothing c.args.terms.at.port _

pub returns-in-OfRoles-clause-corrects : goal.returns-in-OfRoles-clause-corrects
returns-in-OfRoles-clause-corrects g c past h = c.hear_peer.ensures.corrects past h.port

pub returns-in-OfSends-clause-corrects : goal.returns-in-OfSends-clause-corrects
returns-in-OfSends-clause-corrects g c past h =
    let m = c.args.m.now in
    let audience : audience_of m.kind ≡ OfSends = ap audience_of (sym c.kind.ensures) ∙ (sym c.audience_of.ensures ∙ c.in-OfSends.is) in
    tells_still (Emits_more (Acking ∷ []) refl (emits_ack c.args.from m (audience_sends m.kind audience)))
    (c.hear_ack.ensures.row _ c.args.terms.at.tick c.args.clock.now) past h.port

pub answer-requires : goal.answer-requires
answer-requires g c = record {
  room = omega (arith, c.requires.room);
  tick = c.requires.tick;
  audience = ap audience_of (sym c.kind.ensures) ∙
      (sym c.audience_of.ensures ∙ c.in-OfClients.is);
}

pub hear_date-requires : goal.hear_date-requires
hear_date-requires g c = record {
  room = omega (arith, c.requires.room);
  tick = c.requires.tick;
  later = c.requires.later;
  audience = ap audience_of (sym c.kind.ensures) ∙ (sym c.audience_of.ensures ∙ c.in-OfDates.is);
}

pub hear_peer-requires : goal.hear_peer-requires
hear_peer-requires g c = record {
  room = omega (arith, c.requires.room);
  tick = c.requires.tick;
  later = c.requires.later;
  audience = ap audience_of (sym c.kind.ensures) ∙ (sym c.audience_of.ensures ∙ c.in-OfRoles.is);
}

pub hear_ack-requires : goal.hear_ack-requires
hear_ack-requires g c = record {
  room = omega (arith, c.requires.room);
  audience = ap audience_of (sym c.kind.ensures) ∙
      (sym c.audience_of.ensures ∙ c.in-OfSends.is);
}

pub returns-in-OfClients-clause-room : goal.returns-in-OfClients-clause-room
returns-in-OfClients-clause-room g c = let room = c.answer.ensures.room in record { spare = omega (arith, room.spare); few = omega (arith, room.few) }

pub returns-in-OfDates-clause-room : goal.returns-in-OfDates-clause-room
returns-in-OfDates-clause-room g c = let room = c.hear_date.ensures.room in record { spare = omega (arith, room.spare); few = omega (arith, room.few) }

pub returns-in-OfRoles-clause-room : goal.returns-in-OfRoles-clause-room
returns-in-OfRoles-clause-room g c = let room = c.hear_peer.ensures.room in record { spare = omega (arith, room.spare); few = omega (arith, room.few) }

pub returns-in-OfSends-clause-room : goal.returns-in-OfSends-clause-room
returns-in-OfSends-clause-room g c = let room = c.hear_ack.ensures.room in record { spare = omega (arith, room.spare); few = omega (arith, room.few) }

pub returns-in-OfNode-clause-room : goal.returns-in-OfNode-clause-room
returns-in-OfNode-clause-room g c = record { spare = omega arith; few = omega arith }
