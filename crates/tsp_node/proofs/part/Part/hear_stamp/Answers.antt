-- Only a master hears replies.
use Rattle.std.proofs.Common.{◌∷◌, [], refl, sym, ◌∙◌}
use Rattle.tsp_rules.specs.{Answers.peer_replies, Answers.replies_in, RoundRows.samples}
use Rattle.tsp_date.proofs.KeepLemmas.{DatesStand_by}
use Rattle.tsp_node.proofs.HearLemmas.{Performs_by_role, Performs_heard_by, Performs_unheard, replies_none, replies_master}
use Rattle.tsp_node.proofs.{NodeLemmas.Performs_led, NodeLemmas.Performs_pass, PartLemmas.still_alike}
use Rattle.tsp_rules.proofs.{BuiltRounds.built_samples, Emits.Emits, Emits.Emits_more, Emits.Sampling, EmitsBuilt.emits_built}
use Rattle.tsp_node.proofs.part.Part.hear_stamp.Goals as goal

pub returns-in_default-clause-row : goal.returns-in_default-clause-row
returns-in_default-clause-row g c took r e = Performs_unheard c.args.from (peer_replies r) (sym c.in_default.ensures)

pub returns-then-leads-clause-row : goal.returns-then-leads-clause-row
unfolding peer_replies
returns-then-leads-clause-row g c took r e =
    let p = c.in-Some.p in
    let reply = rw e at c.reply.ensures.row in
    let emits : Emits (Sampling ∷ []) (samples p r) = emits_built refl (built_samples p r tt tt) in
    Performs_heard_by c.args.from p (peer_replies r) (sym c.in-Some.ensures) (Performs_by_role (replies_in p r)
    (rw (replies_master p r c.args.self.now.station.role (sym c.leads.ensures ∙ c.if-leads.true))
    (Performs_led refl refl refl (Emits_more (Sampling ∷ []) refl emits) (Emits_more (Sampling ∷ []) refl emits)
    (DatesStand_by (samples p r) (Emits_more (Sampling ∷ []) refl emits)) reply)))

pub returns-else-leads-clause-row : goal.returns-else-leads-clause-row
unfolding peer_replies
returns-else-leads-clause-row g c took r e =
    let p = c.in-Some.p in
    Performs_heard_by c.args.from p (peer_replies r) (sym c.in-Some.ensures) (Performs_by_role (replies_in p r)
    (rw (replies_none p r c.args.self.now.station.role (sym c.leads.ensures ∙ c.if-leads.false)) Performs_pass))

pub invariant_of-self : goal.invariant_of-self
invariant_of-self g c = still_alike c.args.self.now c.reply.ensures.peers refl refl refl
