use Rattle.std.proofs.Common.{rules, sym}
use Rattle.tsp_history.specs.Histories.{line_of}
use Rattle.tsp_audit.proofs.SampleLemmas.{reading_found}
use Rattle.tsp_audit.proofs.from_round.reading_of.Goals as goal

pub returns-in-Some : goal.returns-in-Some
returns-in-Some c =
    reading_found c.args.lines.now (line_of c.args.line.now) c.in-Came.number c.in-Some.index c.index-lines-index.result (search rules) c.in-Some.ensures
    (sym c.index-lines-index.is)
