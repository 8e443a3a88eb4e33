use Rattle.std.proofs.Common.{rules}
use Rattle.tsp_promises.specs.Measured.{TripAt}
use Rattle.tsp_history.specs.Histories.{history_of, line_of}
use Rattle.tsp_audit.proofs.MeasureLemmas.{measures_decide}
use Rattle.tsp_audit.proofs.measuring.measures.Goals as goal

pub returns-then-not-trips_well : goal.returns-then-not-trips_well
returns-then-not-trips_well c setting has timely m =
    let bad : TripAt (line_of c.args.line.now) (history_of c.args.lines.now) → ⊥ = search rules in
    bad m.trip

pub returns : goal.returns
returns c setting has timely =
    let trip : TripAt (line_of c.args.line.now) (history_of c.args.lines.now) = search rules in
    measures_decide setting (line_of c.args.line.now) (history_of c.args.lines.now) c.errs_little.result trip (c.errs_little.ensures setting has timely)
