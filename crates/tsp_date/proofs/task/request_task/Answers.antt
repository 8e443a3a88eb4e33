-- At a master the last date is answered again, and another is set where the port is in charge.
use Rattle.std.proofs.Common.{sym, ◌∙◌, ap}
use Rattle.tsp_rules.specs.{DateRows.date_request_in, DateRows.is_last, Values.Master}
use Rattle.tsp_date.specs.Dates.{last_in}
use Rattle.tsp_date.proofs.TaskLemmas.{dated_is, request_again, request_ignored, request_other, request_sets}
use Rattle.tsp_date.proofs.task.request_task.Goals as goal

pub returns-in_default : goal.returns-in_default
returns-in_default c = record {
  row = λ past h. request_other c.args.charge c.args.m.now c.args.p c.args.role c.args.tick past c.in_default.not-Master;
  follows = λ q e. let bad : ⊥ = cc in absurd bad;
}

pub returns-then-is_last-clause-row : goal.returns-then-is_last-clause-row
returns-then-is_last-clause-row c past h =
    let m = c.args.m.now in
    let is = dated_is c.args.p m.number c.args.tick past c.args.dates.now h ∙ ap (λ n. is_last n c.args.tick (last_in c.args.dates.now.dated c.args.p))
    (sym c.number.ensures) ∙ sym c.is_last.ensures ∙ c.if-is_last.true in
    ap (λ r. date_request_in c.args.charge m c.args.p r c.args.tick past) c.in-Master.is ∙ request_again c.args.charge m c.args.p c.args.tick past is

pub returns-then-charge-clause-row : goal.returns-then-charge-clause-row
returns-then-charge-clause-row c past h =
    let m = c.args.m.now in
    let is = dated_is c.args.p m.number c.args.tick past c.args.dates.now h ∙ ap (λ n. is_last n c.args.tick (last_in c.args.dates.now.dated c.args.p))
    (sym c.number.ensures) ∙ sym c.is_last.ensures ∙ c.if-is_last.false in
    ap (λ r. date_request_in c.args.charge m c.args.p r c.args.tick past) c.in-Master.is ∙
    ap (λ b. date_request_in b m c.args.p Master c.args.tick past) c.if-charge.true ∙ request_sets m c.args.p c.args.tick past is

pub returns-else-charge-clause-row : goal.returns-else-charge-clause-row
returns-else-charge-clause-row c past h =
    let m = c.args.m.now in
    let is = dated_is c.args.p m.number c.args.tick past c.args.dates.now h ∙ ap (λ n. is_last n c.args.tick (last_in c.args.dates.now.dated c.args.p))
    (sym c.number.ensures) ∙ sym c.is_last.ensures ∙ c.if-is_last.false in
    ap (λ r. date_request_in c.args.charge m c.args.p r c.args.tick past) c.in-Master.is ∙
    ap (λ b. date_request_in b m c.args.p Master c.args.tick past) c.if-charge.false ∙ request_ignored m c.args.p c.args.tick past is
