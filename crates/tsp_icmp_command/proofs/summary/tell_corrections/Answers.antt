-- Where a line fails, what was handed over is what came before.
use Rattle.std.proofs.Common.{◌≡◌, ◌∙◌, ap, sym, subst, ◌++◌, ◌+◌, List, ℕ, get_or, append_assoc, append-nil, drop, rules, ℤ, to_z, of_z}
use Rattle.std.{proofs.lemmas.Int.to_z-of_z, proofs.lemmas.List.drop_more, specs.Int.w64}
use Rattle.tsp_lines.{proofs.Outputs.Hands_trans, specs.Lines.close, specs.Outputs.Hands}
use Rattle.tsp_icmp_command.{proofs.TreatLemmas.on_err, specs.Bests.BestValue, specs.Bests.correct_line, specs.Bests.corrections}
use Rattle.tsp_icmp_command.proofs.summary.tell_corrections.Goals as goal

pub returns-in_err-put-clause-err : goal.returns-in_err-put-clause-err
returns-in_err-put-clause-err g c =
    let told = c.loop-best.invariant.told in
    let back : to_z w64 (of_z w64 c.args.mean) ≡ c.args.mean = to_z-of_z w64 c.args.mean c.ranges.mean in
    on_err c.from_residual.result (
      told.0,
      corrections c.args.mean (drop c.loop-best.best-index c.args.bests.now),
      rw back at told.2,
      subst (λ o. Hands (g.K.Sink.written c.args.sink.now) c.args.output.now (g.K.Sink.written c.put.new.sink) c.put.new.self o) (append-nil told.0)
          (Hands_trans _ _ _ _ _ _ told.0 _ told.1 c.in_err-put.ensures.err),
    )

pub loop-best-preserved : goal.loop-best-preserved
loop-best-preserved g c =
    let told = c.loop-best.invariant.told in
    let i = c.loop-best.best-index in
    let item : BestValue = c.best-item.result in
    let mean : ℤ = to_z w64 (of_z w64 c.args.mean) in
    let rest : List ℕ = corrections mean (drop (i + 1) c.args.bests.now) in
    let item_is : get_or c.args.bests.now i item ≡ item = sym c.best-item.is in
    let here : corrections mean (drop i c.args.bests.now) ≡ close (correct_line mean item) ++ rest =
    ap (λ all. corrections mean all) (drop_more c.args.bests.now i item (search rules)) ∙ ap (λ b. close (correct_line mean b) ++ rest) item_is in
    let text : c.as_slice.result.now ≡ close (correct_line mean item) = c.as_slice.ensures.value ∙ c.correct_line.ensures.text in
    record {
      told = (
        told.0 ++ close (correct_line mean item),
        subst (λ o. Hands (g.K.Sink.written c.args.sink.now) c.args.output.now (g.K.Sink.written c.put.new.sink) c.put.new.self (told.0 ++ o)) text
            (Hands_trans _ _ _ _ _ _ told.0 c.as_slice.result.now told.1 c.in_ok-put.ensures.ok),
        told.2 ∙ ap (λ z. told.0 ++ z) here ∙ sym (append_assoc told.0 (close (correct_line mean item)) rest),
      );
      later = search rules;
      still = search rules;
    }
