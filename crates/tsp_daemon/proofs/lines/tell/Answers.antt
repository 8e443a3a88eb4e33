use Rattle.std.proofs.Common.{rules, arith, ◌≡◌, ◌∙◌, ◌++◌, ◌+◌, ap, sym, append_assoc, get_or, length, drop}
use Rattle.tsp_rules.specs.Values.{Placed}
use Rattle.tsp_lines.proofs.Outputs.{Grows_trans}
use Rattle.tsp_daemon.specs.Posts.{line_of, act_lines, send_of}
use Rattle.tsp_daemon.proofs.LineLemmas.{lines_here, tells_until}
use Rattle.tsp_daemon.proofs.lines.tell.Goals as goal

pub loop-placed-preserved : goal.loop-placed-preserved
loop-placed-preserved g c =
    let told = c.loop-placed.invariant.told in
    let item : Placed = c.placed-item.result in
    let item_is : get_or c.args.acts.now c.loop-placed.placed-index item ≡ item = search rules in
    let rest = drop (c.loop-placed.placed-index + 1) c.args.acts.now in
    let line : c.as_slice.result.now ≡ line_of c.args.turn c.args.tick c.loop-placed.number item = c.as_slice.ensures.value ∙ c.line_of.ensures in
    let here = lines_here c.args.turn c.args.tick c.loop-placed.number c.args.acts.now c.loop-placed.placed-index item (search rules) item_is
    ∙ ap (λ xs. xs ++ act_lines c.args.turn c.args.tick (c.loop-placed.number + length (send_of item.act)) rest) (sym line)
    ∙ ap (λ n. c.as_slice.result.now ++ act_lines c.args.turn c.args.tick (c.loop-placed.number + n) rest) (sym c.posts_by-number.ensures.count) in
    record {
      told = (
        told.0 ++ c.as_slice.result.now,
        Grows_trans _ _ _ told.0 c.as_slice.result.now told.1 c.in_default.ensures.ok,
        told.2 ∙ ap (λ xs. told.0 ++ xs) here ∙ sym (append_assoc told.0 c.as_slice.result.now _),
      );
      few = omega (arith, c.loop-placed.invariant.few, c.posts_by-number.ensures.one);
      still = c.in_default.ensures.write.still (λ e. cc) ∙ c.loop-placed.invariant.still;
    }

pub returns-in-Err-clause-err : goal.returns-in-Err-clause-err
returns-in-Err-clause-err g c =
    let told = c.loop-placed.invariant.told in
    let item : Placed = c.placed-item.result in
    let item_is : get_or c.args.acts.now c.loop-placed.placed-index item ≡ item = search rules in
    let line : c.as_slice.result.now ≡ line_of c.args.turn c.args.tick c.loop-placed.number item = c.as_slice.ensures.value ∙ c.line_of.ensures in
    let here = lines_here c.args.turn c.args.tick c.loop-placed.number c.args.acts.now c.loop-placed.placed-index item (search rules) item_is
    ∙ ap (λ xs. xs ++ act_lines c.args.turn c.args.tick (c.loop-placed.number + length (send_of item.act))
    (drop (c.loop-placed.placed-index + 1) c.args.acts.now)) (sym line) in
    tells_until c.in-Err.end _ told.0 c.as_slice.result.now _ _ _ _ told.1 (told.2 ∙ ap (λ xs. told.0 ++ xs) here) c.in-Err.ensures.err
