use Rattle.std.proofs.Common.{refl, sym}
use Rattle.tsp_script.proofs.Bodies.{time_body, hops_body, no_body, time_fits, hops_fit, nothing_fits}
use Rattle.tsp_script.proofs.Outcomes.{if_some_then}
use Rattle.tsp_script.proofs.message_reader.next_body.Goals as goal

pub returns-then-carries_time-clause-found : goal.returns-then-carries_time-clause-found
returns-then-carries_time-clause-found c = if_some_then c.next_time.result (λ r h. (h.0, time_fits c.args.kind r.0 (sym c.if-carries_time.ensures) h.1, h.2))
    c.next_time.ensures.found

pub returns-then-carries_time-clause-reads : goal.returns-then-carries_time-clause-reads
returns-then-carries_time-clause-reads c = λ body rest b f e. c.next_time.ensures.reads body rest b (time_body c.args.kind body (sym c.if-carries_time.ensures)
    f) e

pub returns-then-carries_hops-clause-found : goal.returns-then-carries_hops-clause-found
returns-then-carries_hops-clause-found c = if_some_then c.next_hops.result (λ r h. (h.0, hops_fit c.args.kind r.0 (sym c.if-carries_hops.ensures) h.1, h.2))
    c.next_hops.ensures.found

pub returns-then-carries_hops-clause-reads : goal.returns-then-carries_hops-clause-reads
returns-then-carries_hops-clause-reads c = λ body rest b f e. c.next_hops.ensures.reads body rest b (hops_body c.args.kind body (sym c.if-carries_hops.ensures)
    f) e

pub returns-clause-found : goal.returns-clause-found
returns-clause-found c = (tt, nothing_fits c.args.kind (sym c.if-carries_time.ensures) (sym c.if-carries_hops.ensures), refl)

pub returns-clause-reads : goal.returns-clause-reads
returns-clause-reads c = λ body rest b f e. no_body c.args.kind body c.args.line.now rest (sym c.if-carries_time.ensures) (sym c.if-carries_hops.ensures) f e
