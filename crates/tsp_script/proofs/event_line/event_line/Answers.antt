use Rattle.std.proofs.Common.{◌≡◌, ap, Ok}
use Rattle.tsp_script.proofs.{EventLines.no_item, EventLines.SpellsEvent_one, Outcomes.none_not_some}
use Rattle.tsp_script.specs.declared.event_line.EventItem.TheVariants.{Event as EventOf}
use Rattle.tsp_base.specs.Words.{event_in}
use Rattle.tsp_script.proofs.event_line.event_line.Goals as goal

pub returns-in-Some-clause-one : goal.returns-in-Some-clause-one
returns-in-Some-clause-one c = λ item s. ap Ok (SpellsEvent_one c.args.line.now (EventOf c.in-Some.bytes) item c.in-Some.ensures.found s)

pub returns-in-Some-boot_line-clause-one : goal.returns-in-Some-boot_line-clause-one
returns-in-Some-boot_line-clause-one c = λ item s. ap Ok (SpellsEvent_one c.args.line.now (EventOf c.in-Some-boot_line.boot) item
    c.in-Some-boot_line.ensures.found s)

pub returns-in-Some-plain_line-clause-one : goal.returns-in-Some-plain_line-clause-one
returns-in-Some-plain_line-clause-one c = λ item s.
    let e : EventOf (event_in c.in-Some-plain_line.plain) ≡ item = SpellsEvent_one c.args.line.now (EventOf (event_in c.in-Some-plain_line.plain)) item
    c.in-Some-plain_line.ensures.found.1 s in
    let made = c.event.ensures in
    cc

pub returns-else-is_same-clause-reads : goal.returns-else-is_same-clause-reads
returns-else-is_same-clause-reads c = λ item s.
    no_item c.args.line.now item s c.in_default.ensures.none c.in_default-boot_line.ensures.none
    (λ plain i t. none_not_some _ (c.in_default-plain_line.ensures.reads plain i t)) c.if-is_same.ensures

pub returns-else-is_same-clause-one : goal.returns-else-is_same-clause-one
returns-else-is_same-clause-one c = λ item s. absurd (
    no_item c.args.line.now item s c.in_default.ensures.none c.in_default-boot_line.ensures.none
    (λ plain i t. none_not_some _ (c.in_default-plain_line.ensures.reads plain i t)) c.if-is_same.ensures)
