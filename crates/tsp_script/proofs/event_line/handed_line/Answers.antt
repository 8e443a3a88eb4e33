use Rattle.std.proofs.Common.{◌≡◌, ◌∙◌, ◌++◌, ◌∷◌, sym, Ok, arith, take, length-take, codes}
use Rattle.std.proofs.lemmas.List.{append_cancel_left}
use Rattle.hex.specs.Hex.{decode_of}
use Rattle.tsp_base.specs.declared.event.Event.TheVariants.{Bytes}
use Rattle.tsp_script.specs.Traces.{place_text}
use Rattle.tsp_script.proofs.{EventLines.rest_of, EventLines.event_parts, EventLines.bytes_written, Outcomes.if_none}
use Rattle.tsp_script.proofs.event_line.handed_line.Goals as goal

pub returns-in_err-at-clause-none : goal.returns-in_err-at-clause-none
returns-in_err-at-clause-none c = if_none c.from_residual.result (λ at node port from octets s.
    let e = Bytes at node port from octets in
    c.in_err-at.ensures.reads at (codes "bytes" ++ 32 ∷ rest_of e s.1.0) s.0.0 (s.1.2 ∙ event_parts e s.1.0))

pub returns-in_err-line-clause-none : goal.returns-in_err-line-clause-none
returns-in_err-line-clause-none c = if_none c.from_residual-in_err-line.result (λ at node port from octets s.
    let e = Bytes at node port from octets in
    let a = c.in_ok-at.ensures.reads at (codes "bytes" ++ 32 ∷ rest_of e s.1.0) s.0.0 (s.1.2 ∙ event_parts e s.1.0) in
    c.in_err-line.ensures (rest_of e s.1.0) a.1)

pub returns-in_err-node-clause-none : goal.returns-in_err-node-clause-none
returns-in_err-node-clause-none c = if_none c.from_residual-in_err-node.result (λ at node port from octets s.
    let e = Bytes at node port from octets in
    let a = c.in_ok-at.ensures.reads at (codes "bytes" ++ 32 ∷ rest_of e s.1.0) s.0.0 (s.1.2 ∙ event_parts e s.1.0) in
    let r = append_cancel_left (codes "bytes ") _ _ (sym c.in_ok-line.ensures ∙ a.1) in
    c.in_err-node.ensures.reads node port (place_text from ++ 32 ∷ s.1.0) s.0.1 s.0.2 r)

pub returns-in_err-from-clause-none : goal.returns-in_err-from-clause-none
returns-in_err-from-clause-none c = if_none c.from_residual-in_err-from.result (λ at node port from octets s.
    let e = Bytes at node port from octets in
    let a = c.in_ok-at.ensures.reads at (codes "bytes" ++ 32 ∷ rest_of e s.1.0) s.0.0 (s.1.2 ∙ event_parts e s.1.0) in
    let r = append_cancel_left (codes "bytes ") _ _ (sym c.in_ok-line.ensures ∙ a.1) in
    let n = c.in_ok-node.ensures.reads node port (place_text from ++ 32 ∷ s.1.0) s.0.1 s.0.2 r in
    c.in_err-from.ensures.reads from s.1.0 s.0.3 n.2)

pub returns-in_err-count-clause-none : goal.returns-in_err-count-clause-none
returns-in_err-count-clause-none c = if_none c.from_residual-in_err-count.result (λ at node port from octets s.
    let e = Bytes at node port from octets in
    let a = c.in_ok-at.ensures.reads at (codes "bytes" ++ 32 ∷ rest_of e s.1.0) s.0.0 (s.1.2 ∙ event_parts e s.1.0) in
    let r = append_cancel_left (codes "bytes ") _ _ (sym c.in_ok-line.ensures ∙ a.1) in
    let n = c.in_ok-node.ensures.reads node port (place_text from ++ 32 ∷ s.1.0) s.0.1 s.0.2 r in
    let f = c.in_ok-from.ensures.reads from s.1.0 s.0.3 n.2 in
    let back : decode_of c.in_ok-from.hex.now ≡ Ok octets = rw f.1 s.1.1 in
    c.in_err-count.ensures.none octets s.0.4 s.0.5 back)

pub returns-clause-found : goal.returns-clause-found
returns-clause-found c =
    let n = c.in_ok-node.ensures.found in
    let o = c.in_ok-count.ensures.found in
    let size = length-take c.in_ok-count.count c.octets_handed.new.buffer in (
      (c.in_ok-at.ensures.found.0, n.0, n.1, c.in_ok-from.ensures.found.0, omega (arith, size, o.1), omega (arith, size, o.2)),
      (
        c.in_ok-from.hex.now,
        o.0,
        bytes_written _ _ _ _ (take c.in_ok-count.count c.octets_handed.new.buffer) c.args.line.now c.in_ok-at.line.now c.in_ok-line.line.now
            c.in_ok-node.line.now c.in_ok-from.hex.now c.in_ok-at.ensures.found.1 c.in_ok-line.ensures n.2 c.in_ok-from.ensures.found.1,
      ),
    )
