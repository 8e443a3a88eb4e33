use Rattle.std.proofs.Common.{◌∙◌, ◌<◌, ◌^◌, sym, subst, arith}
use Rattle.tsp_script.proofs.ActTexts.{trace_parts, behind_event, behind_node, behind_port, line_of_parts, line_found}
use Rattle.tsp_script.proofs.Outcomes.{none_not_some}
use Rattle.tsp_script.proofs.act_reader.read_line.Goals as goal

pub returns-in_err-event-clause-reads : goal.returns-in_err-event-clause-reads
returns-in_err-event-clause-reads c = λ l s. absurd (c.in_err-event.ensures.reads l.event (behind_event l) s.0.event (s.1 ∙ trace_parts l))

pub returns-in_err-node-clause-reads : goal.returns-in_err-node-clause-reads
returns-in_err-node-clause-reads c = λ l s.
    let e = c.in_ok-event.ensures.reads l.event (behind_event l) s.0.event (s.1 ∙ trace_parts l) in
    absurd (c.in_err-node.ensures.reads l.node (behind_node l) s.0.node e.1)

pub returns-in_err-port-clause-reads : goal.returns-in_err-port-clause-reads
returns-in_err-port-clause-reads c = λ l s.
    let e = c.in_ok-event.ensures.reads l.event (behind_event l) s.0.event (s.1 ∙ trace_parts l) in
    let n = c.in_ok-node.ensures.reads l.node (behind_node l) s.0.node e.1 in
    absurd (c.in_err-port.ensures.reads l.placed.port.0 (behind_port l) (let small = s.0.port in omega (arith, small)) n.1)

pub returns-in_err-port-2-clause-reads : goal.returns-in_err-port-2-clause-reads
returns-in_err-port-2-clause-reads c = λ l s.
    let e = c.in_ok-event.ensures.reads l.event (behind_event l) s.0.event (s.1 ∙ trace_parts l) in
    let n = c.in_ok-node.ensures.reads l.node (behind_node l) s.0.node e.1 in
    let p = c.in_ok-port.ensures.reads l.placed.port.0 (behind_port l) (let small = s.0.port in omega (arith, small)) n.1 in
    absurd (none_not_some _ (c.in_err-port-2.ensures.fits (subst (λ k. k < 2 ^ 8) (sym p.0) s.0.port)))

pub returns-in_err-tick-clause-reads : goal.returns-in_err-tick-clause-reads
returns-in_err-tick-clause-reads c = λ l s.
    let e = c.in_ok-event.ensures.reads l.event (behind_event l) s.0.event (s.1 ∙ trace_parts l) in
    let n = c.in_ok-node.ensures.reads l.node (behind_node l) s.0.node e.1 in
    let p = c.in_ok-port.ensures.reads l.placed.port.0 (behind_port l) (let small = s.0.port in omega (arith, small)) n.1 in
    absurd (c.in_err-tick.ensures.reads l.tick _ s.0.tick p.1)

pub returns-in_err-number-clause-reads : goal.returns-in_err-number-clause-reads
returns-in_err-number-clause-reads c = λ l s.
    let e = c.in_ok-event.ensures.reads l.event (behind_event l) s.0.event (s.1 ∙ trace_parts l) in
    let n = c.in_ok-node.ensures.reads l.node (behind_node l) s.0.node e.1 in
    let p = c.in_ok-port.ensures.reads l.placed.port.0 (behind_port l) (let small = s.0.port in omega (arith, small)) n.1 in
    let t = c.in_ok-tick.ensures.reads l.tick _ s.0.tick p.1 in
    absurd (c.in_err-number.ensures.reads l.number l.placed.act s.0.act s.0.number t.1)

pub returns-clause-reads : goal.returns-clause-reads
returns-clause-reads c = λ l s.
    let e = c.in_ok-event.ensures.reads l.event (behind_event l) s.0.event (s.1 ∙ trace_parts l) in
    let n = c.in_ok-node.ensures.reads l.node (behind_node l) s.0.node e.1 in
    let p = c.in_ok-port.ensures.reads l.placed.port.0 (behind_port l) (let small = s.0.port in omega (arith, small)) n.1 in
    let t = c.in_ok-tick.ensures.reads l.tick _ s.0.tick p.1 in
    let a = c.in_ok-number.ensures.reads l.number l.placed.act s.0.act s.0.number t.1 in
    line_of_parts _ _ _ _ _ _ l e.0 n.0 (c.in_ok-port-2.ensures.same.0 ∙ p.0) t.0 a.0 a.1

pub returns-clause-found : goal.returns-clause-found
returns-clause-found c = (
  record {
    event = c.in_ok-event.ensures.found.0;
    node = c.in_ok-node.ensures.found.0;
    port = c.in_ok-port-2.ensures.same.1;
    tick = c.in_ok-tick.ensures.found.0;
    number = c.in_ok-number.ensures.range.1;
    act = c.in_ok-number.ensures.range.0;
  },
  line_found c.args.line.now c.in_ok-event.rest.now c.in_ok-node.rest.now c.in_ok-port.rest.now c.in_ok-tick.rest.now (record {
    event = c.in_ok-event.event;
    node = c.in_ok-node.node;
    tick = c.in_ok-tick.tick;
    number = c.in_ok-number.number;
    placed = record {
      port = record { 0 = c.in_ok-port-2.port };
      act = c.in_ok-number.act;
    };
  })
      c.in_ok-event.ensures.found.1 c.in_ok-node.ensures.found.1 (rw c.in_ok-port-2.ensures.same.0 c.in_ok-port.ensures.found.1) c.in_ok-tick.ensures.found.1
      c.in_ok-number.ensures.found,
)
