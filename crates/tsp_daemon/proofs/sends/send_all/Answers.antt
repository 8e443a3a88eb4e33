use Rattle.std.proofs.Common.{rules, arith, ◌≡◌, ◌∙◌, ◌++◌, List, ap, sym, append_assoc, get_or, length}
use Rattle.std.proofs.lemmas.List.{length-append}
use Rattle.tsp_io.specs.Links.{Tried}
use Rattle.tsp_rules.specs.Values.{Placed}
use Rattle.tsp_daemon.{proofs.SendLemmas.TriesAll_trans, proofs.SendLemmas.sends_here, specs.Posts.send_of}
use Rattle.tsp_daemon.proofs.sends.send_all.Goals as goal

pub loop-placed-preserved : goal.loop-placed-preserved
loop-placed-preserved g c =
    let tried = c.loop-placed.invariant.tried in
    let item : Placed = c.placed-item.result in
    let item_is : get_or c.args.acts.now c.loop-placed.placed-index item ≡ item = search rules in
    let here = sends_here c.args.acts.now c.loop-placed.placed-index item (search rules) item_is in
    let e = c.in_ok-count.ensures in
    record {
      tried = (
        tried.0 ++ send_of item.act,
        TriesAll_trans _ _ _ tried.0 (send_of item.act) tried.1 e.ok,
        tried.2 ∙ ap (λ ps. tried.0 ++ ps) here ∙ sym (append_assoc tried.0 (send_of item.act) _),
      );
      count =
          let counted = ap (λ (ts : List Tried). length ts) here ∙ length-append (send_of item.act) _ in
          omega (arith, c.loop-placed.invariant.count, counted, e.count);
      few = omega (arith, c.loop-placed.invariant.few, e.one);
      arrivals = e.only.arrivals ∙ c.loop-placed.invariant.arrivals;
      calls = e.only.calls ∙ c.loop-placed.invariant.calls;
      stranger = e.only.stranger ∙ c.loop-placed.invariant.stranger;
      binds = e.only.binds ∙ c.loop-placed.invariant.binds;
      waits = e.only.waits ∙ c.loop-placed.invariant.waits;
      faults = e.only.faults ∙ c.loop-placed.invariant.faults;
      send_faults = omega (arith, c.loop-placed.invariant.send_faults, e.only.sends);
    }
