use Rattle.std.proofs.Common.{◌≤◌, [], inl, refl, length}
use Rattle.tsp_lines.{proofs.Stops.MatchResult_line, specs.Meanings.Meaning}
use Rattle.tsp_text_tests.proofs.tests.lines.EchoTreatment.treat.Goals as goal

pub returns-in_err-put-in_default-clause-treats : goal.returns-in_err-put-in_default-clause-treats
returns-in_err-put-in_default-clause-treats g c = λ lines text s a room.
    let m : Meaning = record {
      accepts = λ lines text. Unit {0};
      refuses = λ lines line cause. Unit {0};
      limits = λ lines line. Unit {0};
      full = λ lines. 3 ≤ length lines;
      ends = λ lines more. Unit {0};
      lacks = λ lines cause. Unit {0};
    } in
    MatchResult_line m lines text c.args.line.now _ _ c.args.out.now c.put.new.self _ c.from_residual.result c.in_err-put-in_default.field-0.0
    c.from_residual.ensures ([], c.in_err-put-in_default.ensures.err, inl refl)
