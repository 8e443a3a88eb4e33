-- Whose it is, and what it is.
use Rattle.std.proofs.Common.{◌∙◌, [], ◌∷◌, refl, arith}
use Rattle.tsp_base.{proofs.PerformsLemmas.Performs_else_part, proofs.PerformsLemmas.Performs_then_part, specs.Words.nothing}
use Rattle.tsp_rules.{proofs.Emits.Emits_more, proofs.Emits.Posting, proofs.Emits.Sampling, specs.Answers.handles, specs.Guards.is_own}
use Rattle.tsp_slave.proofs.TellLemmas.{tells_nothing, tells_still}
use Rattle.tsp_node.proofs.NodeLemmas.{Performs_took, took_beside, took_pass}
use Rattle.tsp_node.proofs.TakeEmits.{emits_replies_in, emits_reply}
use Rattle.tsp_node.proofs.part.Part.handle.Goals as goal

pub returns-then-is_own-clause-row : goal.returns-then-is_own-clause-row
returns-then-is_own-clause-row g c =
    Performs_then_part (is_own c.args.from) (handles c.args.terms.steer c.args.terms.charge c.args.from c.args.taken.now)
    (λ past h. c.is_own.ensures c.args.terms.at.tick past h.port.stands.station.own ∙ c.if-is_own.true) took_pass

pub returns-in_default-clause-row : goal.returns-in_default-clause-row
unfolding handles
returns-in_default-clause-row g c =
    rw c.in_default.is (Performs_else_part (is_own c.args.from) nothing (λ past h. c.is_own.ensures c.args.terms.at.tick past h.port.stands.station.own ∙
    c.if-is_own.false) took_pass)

pub returns-in-Message-clause-row : goal.returns-in-Message-clause-row
unfolding handles
returns-in-Message-clause-row g c =
    rw (c.in-Good.is, c.in-Message.is) (Performs_else_part (is_own c.args.from) nothing (λ past h. c.is_own.ensures c.args.terms.at.tick past
    h.port.stands.station.own ∙ c.if-is_own.false) c.hear.ensures.row)

pub returns-in-Request-clause-row : goal.returns-in-Request-clause-row
unfolding handles
returns-in-Request-clause-row g c =
    rw (c.in-Good.is, c.in-Stamp.is, c.in-Request.is) (Performs_else_part (is_own c.args.from) nothing (λ past h. c.is_own.ensures c.args.terms.at.tick past
    h.port.stands.station.own ∙ c.if-is_own.false)
    (took_beside c.args.tracing.now (Emits_more (Posting ∷ []) refl (emits_reply c.args.from _ _)) (Performs_took (c.reply.ensures.row c.args.self.now))))

pub returns-in-Reply-clause-row : goal.returns-in-Reply-clause-row
unfolding handles
returns-in-Reply-clause-row g c =
    rw (c.in-Good.is, c.in-Stamp.is, c.in-Reply.is) (Performs_else_part (is_own c.args.from) nothing (λ past h. c.is_own.ensures c.args.terms.at.tick past
    h.port.stands.station.own ∙ c.if-is_own.false)
    (took_beside c.args.tracing.now (Emits_more (Sampling ∷ []) refl (emits_replies_in c.args.from _)) (c.hear_stamp.ensures.row _ _ c.in-Reply.is)))

pub returns-then-is_own-clause-corrects : goal.returns-then-is_own-clause-corrects
returns-then-is_own-clause-corrects g c past h = tells_nothing c.args.terms.at.port _

pub returns-in_default-clause-corrects : goal.returns-in_default-clause-corrects
returns-in_default-clause-corrects g c past h = tells_nothing c.args.terms.at.port _

pub returns-in-Message-clause-corrects : goal.returns-in-Message-clause-corrects
returns-in-Message-clause-corrects g c = rw (c.in-Good.is, c.in-Message.is) c.hear.ensures.corrects

pub returns-in-Request-clause-corrects : goal.returns-in-Request-clause-corrects
returns-in-Request-clause-corrects g c past h = tells_still (Emits_more (Posting ∷ []) refl (emits_reply c.args.from _ _)) (c.reply.ensures.row c.args.self.now)
    past h.port.stands

pub returns-in-Reply-clause-corrects : goal.returns-in-Reply-clause-corrects
returns-in-Reply-clause-corrects g c past h = tells_still (Emits_more (Sampling ∷ []) refl (emits_replies_in c.args.from _))
    (c.hear_stamp.ensures.row _ _ c.in-Reply.is) past h.port

pub hear-requires : goal.hear-requires
hear-requires g c = record { room = c.requires.room; tick = c.requires.tick; later = c.requires.later }

pub reply-requires : goal.reply-requires
reply-requires g c = record { room = omega (arith, c.requires.room); tick = c.requires.tick; later = c.requires.later }

pub hear_stamp-requires : goal.hear_stamp-requires
hear_stamp-requires g c = record { room = omega (arith, c.requires.room); tick = c.requires.tick; later = c.requires.later }

pub returns-then-is_own-clause-room : goal.returns-then-is_own-clause-room
returns-then-is_own-clause-room g c = record { spare = omega arith; few = omega arith }

pub returns-in_default-clause-room : goal.returns-in_default-clause-room
returns-in_default-clause-room g c = record { spare = omega arith; few = omega arith }

pub returns-in-Message-clause-room : goal.returns-in-Message-clause-room
returns-in-Message-clause-room g c = c.hear.ensures.room

pub returns-in-Request-clause-room : goal.returns-in-Request-clause-room
returns-in-Request-clause-room g c = let room = c.reply.ensures.room in record { spare = omega (arith, room.spare); few = omega (arith, room.few) }

pub returns-in-Reply-clause-room : goal.returns-in-Reply-clause-room
returns-in-Reply-clause-room g c = let room = c.hear_stamp.ensures.room in record { spare = omega (arith, room.spare); few = omega (arith, room.few) }
