use Rattle.std.proofs.Common.{◌∙◌, ◌++◌, ◌∷◌, ℕ, List, ap, arith, decimal}
use Rattle.tsp_script.{proofs.Cuts.cut_front, specs.Schedules.port_text}
use Rattle.tsp_script.proofs.Ports.{port_none, port_stands, nodes_apart, no_space_port}
use Rattle.tsp_script.proofs.event_line.front_node.Goals as goal

pub returns-in-Some-clause-reads : goal.returns-in-Some-clause-reads
returns-in-Some-clause-reads c = λ node port rest h k e.
    let f = port_none c.args.line.now c.in-Some.rest.now c.in-Some.node c.in-Some.ensures.found.1 in
    let a = nodes_apart c.args.line.now c.in-Some.node node (record { 0 = 0 }) port c.in-Some.rest.now rest (omega (arith, c.in-Some.ensures.found.0))
    (omega (arith, h)) (omega arith) (omega (arith, k)) f e in
    (a.0, a.1, a.2)

pub returns-in_err-word-clause-reads : goal.returns-in_err-word-clause-reads
returns-in_err-word-clause-reads c = λ node port rest h k e. absurd (c.in_err-word.ensures.none (decimal node ++ port_text port) rest e)

pub returns-in_err-node-clause-reads : goal.returns-in_err-node-clause-reads
returns-in_err-node-clause-reads c = λ node port rest h k e.
    let s = port_stands c.args.line.now rest node port e (λ l. c.in_default.ensures.reads node rest h l) in
    let w = cut_front c.args.line.now (decimal node ++ port_text port) rest (no_space_port node port (omega (arith, h)) (omega (arith, k))) e in
    absurd (c.in_err-node.ensures.reads node port h k s (c.in_ok-word.ensures.found.0 ∙ w.0))

pub returns-clause-reads : goal.returns-clause-reads
returns-clause-reads c = λ node port rest h k e.
    let r = c.in_ok-node.ensures.found in
    let f = c.in_ok-word.ensures.found.2 ∙ ap (λ (w : List ℕ). w ++ 32 ∷ c.in_ok-word.rest.now) r.2 in
    nodes_apart c.args.line.now c.in_ok-node.node node c.in_ok-node.port port c.in_ok-word.rest.now rest (omega (arith, r.0)) (omega (arith, h))
    (omega (arith, r.1)) (omega (arith, k)) f e
