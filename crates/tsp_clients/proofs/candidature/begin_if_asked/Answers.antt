-- The row's test is the code's.
use Rattle.std.proofs.Common.{◌∙◌, sym}
use Rattle.tsp_base.specs.Words.{nothing}
use Rattle.tsp_base.proofs.PerformsLemmas.{Performs_then_part, Performs_else_part, Performs_nothing}
use Rattle.tsp_rules.specs.CommonRows.{may_be_asked, candidature_row}
use Rattle.tsp_clients.proofs.ClientLemmas.{may_be_asked_is}
use Rattle.tsp_clients.proofs.candidature.begin_if_asked.Goals as goal

pub returns-then-may_be_asked-clause-row : goal.returns-then-may_be_asked-clause-row
returns-then-may_be_asked-clause-row g c =
    Performs_then_part may_be_asked nothing (λ past h. may_be_asked_is c.args.tick past c.args.station.now h.stands ∙
    (sym c.may_be_asked.ensures ∙ c.if-may_be_asked.true)) c.stand.ensures.row

pub returns-else-may_be_asked-clause-row : goal.returns-else-may_be_asked-clause-row
returns-else-may_be_asked-clause-row g c =
    Performs_else_part may_be_asked candidature_row (λ past h. may_be_asked_is c.args.tick past c.args.station.now h.stands ∙
    (sym c.may_be_asked.ensures ∙ c.if-may_be_asked.false)) Performs_nothing
