-- A client's date, and one that a peer passes on.
use Rattle.std.proofs.Common.{◌≡◌, true, false, sym, ◌∙◌, ap}
use Rattle.tsp_base.specs.Words.{is_date_request}
use Rattle.tsp_rules.specs.{Answers.from_peer, DateRows.date_of, DateRows.date_request_of, Guards.is_heard}
use Rattle.tsp_date.{proofs.DateLemmas.heard_is, specs.Tasks.task_row, specs.declared.task.Task.TheVariants.Nothing}
use Rattle.tsp_date.proofs.TaskLemmas.{date_charged, date_uncharged, handles_date, handles_request, request_heard, request_stranger, request_unheard}
use Rattle.tsp_date.proofs.task.task_of.Goals as goal

pub returns-then-charge-clause-row : goal.returns-then-charge-clause-row
returns-then-charge-clause-row c past h d =
    let m = c.args.m.now in
    let k : is_date_request m.kind ≡ false = ap is_date_request (sym c.kind.ensures) ∙ sym c.is_date_request.ensures ∙ c.if-not-is_date_request.true in
    ap (λ row. row c.args.tick past) (handles_date c.args.charge c.args.from m m.kind c.requires.kind k) ∙
    ap (λ b. date_of b c.args.from m c.args.tick past) c.if-charge.true
    ∙ date_charged c.args.from m c.args.station.now.role c.client_task.result c.args.tick past (sym h.role) (c.client_task.ensures.row c.args.from m)

pub returns-else-charge-clause-row : goal.returns-else-charge-clause-row
returns-else-charge-clause-row c past h d =
    let m = c.args.m.now in
    let k : is_date_request m.kind ≡ false = ap is_date_request (sym c.kind.ensures) ∙ sym c.is_date_request.ensures ∙ c.if-not-is_date_request.true in
    ap (λ row. row c.args.tick past) (handles_date c.args.charge c.args.from m m.kind c.requires.kind k) ∙
    ap (λ b. date_of b c.args.from m c.args.tick past) c.if-charge.false
    ∙ date_uncharged c.args.from m c.args.tick past

pub returns-then-hears-clause-row : goal.returns-then-hears-clause-row
returns-then-hears-clause-row c past h d =
    let m = c.args.m.now in
    let p = c.in-Peer.p in
    let k : is_date_request m.kind ≡ true = ap is_date_request (sym c.kind.ensures) ∙ sym c.is_date_request.ensures ∙ c.if-not-is_date_request.false in
    let heard : is_heard p c.args.tick past ≡ true = heard_is p c.args.tick past c.args.station.now h ∙ sym c.hears.ensures ∙ c.if-hears.true in
    let row : from_peer c.args.from (date_request_of c.args.charge m) c.args.tick past ≡ task_row c.request_task.result c.args.from m c.args.tick past =
    rw c.in-Peer.is (request_heard c.args.charge m p c.args.station.now.role c.request_task.result c.args.tick past heard (sym h.role)
    (c.request_task.ensures.row past d)) in
    ap (λ row. row c.args.tick past) (handles_request c.args.charge c.args.from m m.kind k) ∙ row

pub returns-else-hears-clause-row : goal.returns-else-hears-clause-row
returns-else-hears-clause-row c past h d =
    let m = c.args.m.now in
    let p = c.in-Peer.p in
    let k : is_date_request m.kind ≡ true = ap is_date_request (sym c.kind.ensures) ∙ sym c.is_date_request.ensures ∙ c.if-not-is_date_request.false in
    let heard : is_heard p c.args.tick past ≡ false = heard_is p c.args.tick past c.args.station.now h ∙ sym c.hears.ensures ∙ c.if-hears.false in
    let row : from_peer c.args.from (date_request_of c.args.charge m) c.args.tick past ≡ task_row Nothing c.args.from m c.args.tick past =
    rw c.in-Peer.is (request_unheard c.args.charge m p c.args.tick past heard) in
    ap (λ row. row c.args.tick past) (handles_request c.args.charge c.args.from m m.kind k) ∙ row

pub returns-in-Stranger-clause-row : goal.returns-in-Stranger-clause-row
returns-in-Stranger-clause-row c past h d =
    let m = c.args.m.now in
    let k : is_date_request m.kind ≡ true = ap is_date_request (sym c.kind.ensures) ∙ sym c.is_date_request.ensures ∙ c.if-not-is_date_request.false in
    let row : from_peer c.args.from (date_request_of c.args.charge m) c.args.tick past ≡ task_row Nothing c.args.from m c.args.tick past =
    rw c.in-Stranger.is (request_stranger c.args.charge m c.args.tick past) in
    ap (λ row. row c.args.tick past) (handles_request c.args.charge c.args.from m m.kind k) ∙ row
