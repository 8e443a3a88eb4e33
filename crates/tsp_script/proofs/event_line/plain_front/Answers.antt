use Rattle.std.proofs.Common.{◌∙◌}
use Rattle.tsp_base.specs.Words.{event_in}
use Rattle.tsp_script.proofs.EventLines.{at_of, IsTrueTime_at_of}
use Rattle.tsp_script.proofs.PlainLines.{behind_time, none_plain, plain_parts, turn_node, turn_parts, turn_written, take_datagram, take_parts, take_written}
use Rattle.tsp_script.proofs.PlainLines.{no_plain}
use Rattle.tsp_script.proofs.event_line.plain_front.Goals as goal

pub returns-in_err-at-clause-none : goal.returns-in_err-at-clause-none
returns-in_err-at-clause-none c = none_plain c.args.octets.now _ (λ plain rest i e d l.
    c.in_err-at.ensures.reads (at_of (event_in plain)) (behind_time plain rest) (IsTrueTime_at_of (event_in plain) e) (l ∙ plain_parts plain rest i))

pub returns-in_err-node-clause-none : goal.returns-in_err-node-clause-none
returns-in_err-node-clause-none c = none_plain c.args.octets.now _ (λ plain rest i e d l.
    let a = c.in_ok-at.ensures.reads (at_of (event_in plain)) (behind_time plain rest) (IsTrueTime_at_of (event_in plain) e) (l ∙ plain_parts plain rest i) in
    let t = turn_parts c.in_ok-at.rest.now c.in-Some.digits.now rest plain i c.in-Some.ensures a.1 in
    c.in_err-node.ensures.none t.1 rest (turn_node plain t.0 t.1 t.2 e) d t.3)

pub returns-in-Some-clause-found : goal.returns-in-Some-clause-found
returns-in-Some-clause-found c =
    let f = c.in_ok-node.ensures.found in (
      tt,
      (c.in_ok-at.ensures.found.0, f.0),
      f.1,
      turn_written c.in_ok-at.at c.in_ok-node.node c.args.octets.now c.in_ok-at.rest.now c.in-Some.digits.now
          c.in_ok-node.rest.now c.in_ok-at.ensures.found.1 c.in-Some.ensures f.2,
    )

pub returns-in_err-digits-clause-none : goal.returns-in_err-digits-clause-none
returns-in_err-digits-clause-none c = none_plain c.args.octets.now _ (λ plain rest i e d l.
    let a = c.in_ok-at.ensures.reads (at_of (event_in plain)) (behind_time plain rest) (IsTrueTime_at_of (event_in plain) e) (l ∙ plain_parts plain rest i) in
    no_plain c.in_ok-at.rest.now rest plain i c.in_default.ensures c.in_err-digits.ensures a.1)

pub returns-in_err-datagram-clause-none : goal.returns-in_err-datagram-clause-none
returns-in_err-datagram-clause-none c = none_plain c.args.octets.now _ (λ plain rest i e d l.
    let a = c.in_ok-at.ensures.reads (at_of (event_in plain)) (behind_time plain rest) (IsTrueTime_at_of (event_in plain) e) (l ∙ plain_parts plain rest i) in
    let t = take_parts c.in_ok-at.rest.now c.in_ok-digits.digits.now rest plain i c.in_ok-digits.ensures a.1 in
    c.in_err-datagram.ensures.none t.1 rest (take_datagram plain t.0 t.1 t.2 e) d t.3)

pub returns-clause-found : goal.returns-clause-found
returns-clause-found c =
    let f = c.in_ok-datagram.ensures.found in (
      tt,
      (c.in_ok-at.ensures.found.0, f.0),
      f.1,
      take_written c.in_ok-at.at c.in_ok-datagram.datagram c.args.octets.now c.in_ok-at.rest.now
          c.in_ok-digits.digits.now c.in_ok-datagram.rest.now c.in_ok-at.ensures.found.1 c.in_ok-digits.ensures f.2,
    )
