-- The mark is noted, and then one line more.
use Rattle.std.proofs.Common.{◌+◌, ◌++◌, ◌∷◌, [], ◌∙◌, ap, arith, drop, sym}
use Rattle.tsp_base.specs.Words.{Line, joined, first_port, line_of as line_in}
use Rattle.tsp_claims.{proofs.StepLemmas.note_next, specs.Fitting.acts_of, specs.Steps.step_by}
use Rattle.tsp_claims.proofs.taking_in.lines_of.Goals as goal
use Rattle.tsp_history.{proofs.HistoryLemmas.noted_append, specs.Histories.deed_of, specs.Histories.line_of, specs.Histories.noted_after}

pub loop-line-init : goal.loop-line-init
loop-line-init c =
    let step = c.args.step in
    record {
      lines = λ h. ap (λ ls. joined (step_by step) step.tick (acts_of c.args.acts.now) (noted_after h ls)) c.in_ok-push.ensures.items
          ∙ ap (λ ls. joined (step_by step) step.tick (acts_of c.args.acts.now) (noted_after h (ls ++ c.noted.result ∷ []))) c.new-lines.ensures.items
          ∙ ap (λ (m : Line). joined (step_by step) step.tick (acts_of c.args.acts.now) (m ∷ h)) (c.noted.ensures ∙
          ap (λ a. line_in (step_by step) step.tick first_port (deed_of a)) c.mark.ensures);
      many = c.in_ok-push.ensures.len ∙ ap (λ n. n + 1) c.new-lines.ensures.len;
    }

pub loop-line-preserved : goal.loop-line-preserved
loop-line-preserved c =
    let step = c.args.step in
    let item = c.line-item.result in
    let i = c.loop-line.line-index in
    record {
      lines = λ h. ap (λ ls. joined (step_by step) step.tick (acts_of (drop (i + 1) c.args.acts.now)) (noted_after h ls)) c.in_ok-push-2.ensures.items
          ∙ ap (λ k. joined (step_by step) step.tick (acts_of (drop (i + 1) c.args.acts.now)) k)
          (noted_append h c.loop-line.lines.items (c.noted-in-loop-line.result ∷ []))
          ∙ note_next (step_by step) step.tick c.args.acts.now i item (line_of c.noted-in-loop-line.result) (noted_after h c.loop-line.lines.items)
          (omega arith) (sym c.line-item.is)
          (c.noted-in-loop-line.ensures ∙ ap (λ a. line_in (step_by step) step.tick item.placed.port (deed_of a)) c.in_ok-act.ensures)
          ∙ c.loop-line.invariant.lines h;
      many = c.in_ok-push-2.ensures.len ∙ ap (λ n. n + 1) c.loop-line.invariant.many;
    }
