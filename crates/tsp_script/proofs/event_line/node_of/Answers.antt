use Rattle.std.proofs.Common.{◌∙◌, arith}
use Rattle.tsp_script.proofs.{Outcomes.none_not_some, Outcomes.some_injective, Ports.node_found, Ports.stroke_parts}
use Rattle.tsp_script.proofs.event_line.node_of.Goals as goal

pub returns-clause-found : goal.returns-clause-found
returns-clause-found c =
    let q = c.in_ok-port.ensures.found in (
      c.in_ok-node.ensures.range,
      q.0,
      node_found c.args.word.now _ _ c.in_ok-node.node c.in_ok-port.port c.part.ensures.front c.part.ensures.rest
          c.in_ok-node.ensures.spells q.2 q.1 q.0,
    )

pub returns-in_err-node-clause-reads : goal.returns-in_err-node-clause-reads
returns-in_err-node-clause-reads c = λ node port h k s e.
    let p = stroke_parts node port c.args.word.now (omega (arith, h)) s e in
    absurd (none_not_some _ (c.in_err-node.ensures.reads node h (c.part.ensures.front ∙ p.0)))

pub returns-in_err-port-clause-reads : goal.returns-in_err-port-clause-reads
returns-in_err-port-clause-reads c = λ node port h k s e.
    let p = stroke_parts node port c.args.word.now (omega (arith, h)) s e in
    absurd (none_not_some _ (c.in_err-port.ensures.reads port k s (c.part.ensures.rest ∙ p.1)))

pub returns-clause-reads : goal.returns-clause-reads
returns-clause-reads c = λ node port h k s e.
    let p = stroke_parts node port c.args.word.now (omega (arith, h)) s e in (
      some_injective _ _ (c.in_ok-node.ensures.reads node h (c.part.ensures.front ∙ p.0)),
      some_injective _ _ (c.in_ok-port.ensures.reads port k s (c.part.ensures.rest ∙ p.1)),
    )
