use Rattle.std.proofs.Common.{rules}
use Rattle.tsp_promises.specs.Once.{SpacedAt}
use Rattle.tsp_history.specs.Histories.{history_of, line_of}
use Rattle.tsp_audit.proofs.ActLemmas.{acts_decide}
use Rattle.tsp_audit.proofs.once.acts_once.Goals as goal

pub returns-then-not-spaces : goal.returns-then-not-spaces
returns-then-not-spaces c setting has timely a t w =
    let bad : SpacedAt (line_of c.args.line.now) (history_of c.args.lines.now) → ⊥ = search rules in
    bad w.spaced

pub returns-then-not-obeys_if : goal.returns-then-not-obeys_if
returns-then-not-obeys_if c setting has timely a t w =
    let bad = rw c.if-not-obeys_if.true at (c.obeys_if.ensures setting has timely) in
    bad w.obeyed

pub returns : goal.returns
returns c setting has timely a t =
    acts_decide c.args.premises setting (line_of c.args.line.now) (history_of c.args.lines.now) c.takes_well_if.result (search rules)
    (rw c.if-not-obeys_if.false at (c.obeys_if.ensures setting has timely)) (c.takes_well_if.ensures a t)
