-- A correction that is posted again is noted; nothing else is.
use Rattle.std.proofs.Common.{sym, ◌∙◌, ap, refl}
use Rattle.tsp_base.specs.Words.{is_correction}
use Rattle.tsp_node.proofs.{DueSendLemmas.MasterStands_posted, PartLemmas.still_alike}
use Rattle.tsp_node.proofs.part.Part.repeat.Goals as goal

pub returns-then-is_correction-clause-stands : goal.returns-then-is_correction-clause-stands
returns-then-is_correction-clause-stands c past m is still h = c.again.ensures.stands past m (ap is_correction is ∙
    (sym c.is_correction.ensures ∙ c.if-is_correction.true)) still h

pub returns-else-is_correction-clause-stands : goal.returns-else-is_correction-clause-stands
returns-else-is_correction-clause-stands c past m is still h = MasterStands_posted c.args.peer m c.args.tick past c.args.self.now.master (ap is_correction is ∙
    (sym c.is_correction.ensures ∙ c.if-is_correction.false)) h

pub invariant_of-self : goal.invariant_of-self
invariant_of-self c = still_alike c.args.self.now c.again.ensures.peers refl refl refl
