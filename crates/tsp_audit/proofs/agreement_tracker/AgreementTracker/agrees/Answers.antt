use Rattle.std.proofs.Common.{◌≡◌, rules}
use Rattle.tsp_audit.proofs.AgreementSteps.{act_some, agrees_told, all_bounded, trips_less}
use Rattle.tsp_history.specs.Histories.{history_of, line_of}
use Rattle.tsp_audit.proofs.agreement_tracker.AgreementTracker.agrees.Goals as goal

pub returns : goal.returns
returns c setting count has soon numbered is settled =
    let l = line_of c.args.line.now in
    let h = history_of c.args.before.now in
    let slice : c.as_slice.result.now ≡ c.args.self.now.trips.items = search rules in
    let tell = rw (← slice) at (trips_less l h c.args.self.now.trips.items is.trips_tell) in
    let act = act_some c.args.line.now.act (search rules) in
    let bounded = all_bounded _ c.args.self.now.nodes.items is.nodes_are in
    agrees_told c.args.header.now setting count l h c.args.self.now act.0 c.agree_at.result has numbered is (c.if-not-rests.ensures tell) act.1
    (c.agree_at.ensures setting has soon bounded settled)
