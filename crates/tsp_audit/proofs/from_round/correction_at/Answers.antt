use Rattle.std.proofs.Common.{sym}
use Rattle.tsp_audit.proofs.SampleLemmas.{from_round_told, trips_before}
use Rattle.tsp_history.{proofs.NoteLemmas.told_take, specs.Histories.line_of}
use Rattle.tsp_audit.proofs.from_round.correction_at.Goals as goal

pub returns-in-Some : goal.returns-in-Some
returns-in-Some c tell =
    from_round_told c.args.lines.now (line_of c.args.line.now) c.in-Some.index c.index-lines-index.result c.round_of.result c.in-Some.ensures
    (sym c.index-lines-index.is) (c.round_of.ensures (trips_before c.args.lines.now c.args.trips.now c.in-Some.index tell))

pub round_of-requires : goal.round_of-requires
round_of-requires c = told_take c.args.lines.now c.in-Some.index c.requires
