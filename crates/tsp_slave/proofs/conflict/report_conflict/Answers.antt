-- A send is open exactly where the station has its kind.
use Rattle.std.proofs.Common.{◌∙◌, ap, sym, not, is_some}
use Rattle.tsp_base.specs.Words.{nothing}
use Rattle.tsp_base.proofs.PerformsLemmas.{Performs_then_part, Performs_else_part, Performs_nothing}
use Rattle.tsp_rules.specs.{SendRows.begins, SendRows.is_free, SlaveRows.reports_conflict, Values.Conflict}
use Rattle.tsp_slave.proofs.{RoomLemmas.at_most, RowCases.is_free_is}
use Rattle.tsp_slave.proofs.conflict.report_conflict.Goals as goal

pub returns-in-None-clause-row : goal.returns-in-None-clause-row
unfolding reports_conflict
returns-in-None-clause-row g c =
    Performs_then_part (is_free c.args.master) nothing (λ past h. is_free_is c.args.master c.args.tick past c.args.station.now h.stands ∙
    ap (λ k. not (is_some k)) (sym c.kind.ensures ∙ c.in-None.is)) c.begin.ensures.row

pub returns-in-Some-clause-row : goal.returns-in-Some-clause-row
unfolding reports_conflict
returns-in-Some-clause-row g c =
    Performs_else_part (is_free c.args.master) (begins Conflict c.args.master) (λ past h. is_free_is c.args.master c.args.tick past c.args.station.now h.stands
    ∙ ap (λ k. not (is_some k)) (sym c.kind.ensures ∙ c.in-Some.is)) Performs_nothing

pub returns-in-None-clause-room : goal.returns-in-None-clause-room
returns-in-None-clause-room g c = at_most 1 0 c.begin.ensures.room
