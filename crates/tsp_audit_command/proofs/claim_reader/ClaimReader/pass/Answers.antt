-- One event is passed, or it can't be.
use Rattle.std.proofs.Common.{◌≡◌, ◌+◌, ◌-◌, ◌∙◌, ap, sym, arith, suc}
use Rattle.tsp_audit_command.{proofs.PassLemmas.Unpassed-more, proofs.PassLemmas.passes_next, specs.ClaimReaders.passes}
use Rattle.tsp_audit_command.proofs.claim_reader.ClaimReader.pass.Goals as goal

pub returns-in-Err : goal.returns-in-Err
returns-in-Err c =
    let left : suc (c.args.count - (c.loop.counter + 1)) ≡ c.args.count - c.loop.counter = omega arith in
    Unpassed-more (c.args.count - (c.loop.counter + 1)) c.loop.self _ c.in-Err.stop (ap (λ n. passes n c.loop.self) left ∙ c.loop.invariant) c.in-Err.ensures

pub loop-preserved : goal.loop-preserved
loop-preserved c =
    let left : suc (c.args.count - (c.loop.counter + 1)) ≡ c.args.count - c.loop.counter = omega arith in
    sym (passes_next (c.args.count - (c.loop.counter + 1)) c.loop.self c.pass_one.new.self c.in-Ok.ensures) ∙
    (ap (λ n. passes n c.loop.self) left ∙ c.loop.invariant)
