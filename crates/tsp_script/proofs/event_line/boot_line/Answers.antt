use Rattle.std.proofs.Common.{◌∙◌, ◌++◌, ◌∷◌, [], refl, sym, arith, decimal, codes}
use Rattle.std.proofs.lemmas.List.{append_cancel_left}
use Rattle.tsp_base.specs.declared.event.Event.TheVariants.{Boot}
use Rattle.tsp_script.proofs.{EventLines.rest_of, EventLines.event_parts, EventLines.boot_written, Outcomes.if_none, Outcomes.none_not_some}
use Rattle.tsp_script.proofs.event_line.boot_line.Goals as goal

pub returns-in_err-at-clause-none : goal.returns-in_err-at-clause-none
returns-in_err-at-clause-none c = if_none c.from_residual.result (λ at node word s.
    let e = Boot at node word in
    c.in_err-at.ensures.reads at (codes "boot" ++ 32 ∷ rest_of e s.1.0) s.0.0 (s.1.2 ∙ event_parts e s.1.0))

pub returns-in_err-line-clause-none : goal.returns-in_err-line-clause-none
returns-in_err-line-clause-none c = if_none c.from_residual-in_err-line.result (λ at node word s.
    let e = Boot at node word in
    let a = c.in_ok-at.ensures.reads at (codes "boot" ++ 32 ∷ rest_of e s.1.0) s.0.0 (s.1.2 ∙ event_parts e s.1.0) in
    c.in_err-line.ensures (rest_of e s.1.0) a.1)

pub returns-in_err-node-clause-none : goal.returns-in_err-node-clause-none
returns-in_err-node-clause-none c = if_none c.from_residual-in_err-node.result (λ at node word s.
    let e = Boot at node word in
    let a = c.in_ok-at.ensures.reads at (codes "boot" ++ 32 ∷ rest_of e s.1.0) s.0.0 (s.1.2 ∙ event_parts e s.1.0) in
    let r = append_cancel_left (codes "boot ") _ _ (sym c.in_ok-line.ensures ∙ a.1) in
    c.in_err-node.ensures.reads node (decimal word) s.0.1 r)

pub returns-in_err-word-clause-none : goal.returns-in_err-word-clause-none
returns-in_err-word-clause-none c = if_none c.from_residual-in_err-word.result (λ at node word s.
    let e = Boot at node word in
    let a = c.in_ok-at.ensures.reads at (codes "boot" ++ 32 ∷ rest_of e s.1.0) s.0.0 (s.1.2 ∙ event_parts e s.1.0) in
    let r = append_cancel_left (codes "boot ") _ _ (sym c.in_ok-line.ensures ∙ a.1) in
    let n = c.in_ok-node.ensures.reads node (decimal word) s.0.1 r in
    none_not_some _ (c.in_err-word.ensures.reads word s.0.2 n.1))

pub returns-clause-found : goal.returns-clause-found
returns-clause-found c = (
  (c.in_ok-at.ensures.found.0, c.in_ok-node.ensures.found.0, omega arith),
  (
    [],
    refl,
    boot_written _ _ _ c.args.line.now c.in_ok-at.line.now c.in_ok-line.line.now c.in_ok-node.line.now c.in_ok-at.ensures.found.1 c.in_ok-line.ensures
        c.in_ok-node.ensures.found.1 c.in_ok-word.ensures.found,
  ),
)
