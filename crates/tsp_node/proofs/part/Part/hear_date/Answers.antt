-- A date is handled, and a correction noted.
use Rattle.std.proofs.Common.{true, false, refl, sym}
use Rattle.tsp_base.specs.Words.{taken}
use Rattle.tsp_acks.proofs.FollowLemmas.{followed_Contains}
use Rattle.tsp_slave.proofs.TellLemmas.{tells_row}
use Rattle.tsp_node.proofs.{NodeLemmas.Performs_dated, PartLemmas.still_alike, StillTakes.took_dates, TakeEmits.emits_dates}
use Rattle.tsp_node.proofs.part.Part.hear_date.Goals as goal

pub date_take-corrected-requires-clause-followed : goal.date_take-corrected-requires-clause-followed
date_take-corrected-requires-clause-followed g c = λ q e. followed_Contains c.args.self.now.station q e

pub returns-then-corrected-clause-row : goal.returns-then-corrected-clause-row
returns-then-corrected-clause-row g c =
    let m = c.args.m.now in
    let row = rw c.if-corrected.true at c.date_take-corrected.ensures.row in
    Performs_dated true c.moved.ensures refl (emits_dates c.args.charge c.args.from m m.kind c.requires.audience)
    (λ took is. row c.args.self.now.last took (sym c.tick.ensures) is)

pub returns-else-corrected-clause-row : goal.returns-else-corrected-clause-row
returns-else-corrected-clause-row g c =
    let m = c.args.m.now in
    let row = rw c.if-corrected.false at c.date_take-corrected.ensures.row in
    Performs_dated false refl refl (emits_dates c.args.charge c.args.from m m.kind c.requires.audience)
    (λ took is. row c.args.self.now.last took (sym c.tick.ensures) is)

pub returns-then-corrected-clause-corrects : goal.returns-then-corrected-clause-corrects
returns-then-corrected-clause-corrects g c past h =
    let date = c.date_take-corrected.ensures in
    let last = c.args.self.now.last in
    let stands = took_dates _ past _ h in
    tells_row (date.row last (taken past.seen) (sym c.tick.ensures) h.took) past stands c.date_take-corrected.result
    (date.corrects past last (taken past.seen) (sym c.tick.ensures) stands)

pub returns-else-corrected-clause-corrects : goal.returns-else-corrected-clause-corrects
returns-else-corrected-clause-corrects g c past h =
    let date = c.date_take-corrected.ensures in
    let last = c.args.self.now.last in
    let stands = took_dates _ past _ h in
    tells_row (date.row last (taken past.seen) (sym c.tick.ensures) h.took) past stands c.date_take-corrected.result
    (date.corrects past last (taken past.seen) (sym c.tick.ensures) stands)

pub invariant_of-self : goal.invariant_of-self
invariant_of-self g c = still_alike c.args.self.now c.date_take-corrected.ensures.slaves refl c.date_take-corrected.ensures.peers
    c.date_take-corrected.ensures.port.peers

pub invariant_of-self-else-corrected : goal.invariant_of-self-else-corrected
invariant_of-self-else-corrected g c = still_alike c.args.self.now c.date_take-corrected.ensures.slaves refl c.date_take-corrected.ensures.peers
    c.date_take-corrected.ensures.port.peers
