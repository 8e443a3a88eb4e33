use Rattle.std.proofs.Common.{◌∙◌, ◌++◌, ◌∷◌, sym, arith, codes, decimal}
use Rattle.std.proofs.lemmas.List.{append_cancel_left}
use Rattle.tsp_script.proofs.event_line.front_time.Goals as goal

pub returns-in_err-line-clause-reads : goal.returns-in_err-line-clause-reads
returns-in_err-line-clause-reads c = λ at rest h e. absurd (c.in_err-line.ensures (decimal at ++ 32 ∷ rest) e)

pub returns-in_err-at-clause-reads : goal.returns-in_err-at-clause-reads
returns-in_err-at-clause-reads c = λ at rest h e.
    absurd (c.in_err-at.ensures.reads at rest (omega (arith, h)) (append_cancel_left (codes "at ") _ _ (sym c.in_ok-line.ensures ∙ e)))

pub returns-then-at-gt-SCHEDULE_END-clause-reads : goal.returns-then-at-gt-SCHEDULE_END-clause-reads
returns-then-at-gt-SCHEDULE_END-clause-reads c = λ at rest h e.
    let r = c.in_ok-at.ensures.reads at rest (omega (arith, h)) (append_cancel_left (codes "at ") _ _ (sym c.in_ok-line.ensures ∙ e)) in
    absurd (omega (arith, r.0))

pub returns-clause-reads : goal.returns-clause-reads
returns-clause-reads c = λ at rest h e.
    c.in_ok-at.ensures.reads at rest (omega (arith, h)) (append_cancel_left (codes "at ") _ _ (sym c.in_ok-line.ensures ∙ e))
